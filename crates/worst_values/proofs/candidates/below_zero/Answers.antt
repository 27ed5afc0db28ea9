use Rattle.std.proofs.Common.{FitsSigned, to_z-of_z, rules}
use Rattle.std.specs.Int.{w128}
use Rattle.worst_values.proofs.MeasureLemmas.{is_size_below}
use Rattle.worst_values.proofs.candidates.below_zero.Goals as goal

pub returns : goal.returns
returns c =
    let n = c.args.fraction.num in
    let d = c.args.fraction.den in
    let fn : FitsSigned w128 n = search rules in
    let fd : FitsSigned w128 d = search rules in
    let fr : FitsSigned w128 c.size_below.result = search rules in
    let size = simp (to_z-of_z fn, to_z-of_z fr) at c.size_below.ensures in
    λ r p. simp (to_z-of_z fd, to_z-of_z fr) (rw size (is_size_below n d r p))
