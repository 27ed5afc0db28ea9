use Rattle.std.proofs.Common.{rules, FitsSigned, to_z-of_z, arith}
use Rattle.std.specs.Int.{w128}
use Rattle.units_core.proofs.Signed.{fits_within}
use Rattle.righting.proofs.Simpson.{simpson_is}
use Rattle.righting.proofs.areas.area_over_pairs.Goals as goal

pub returns-clause-value : goal.returns-clause-value
returns-clause-value c =
    λ y h.
    let l = c.args.levers.now in
    let d : FitsSigned w128 c.args.levers.now.den = fits_within _ _ l.den_within (omega arith) in
    let n : FitsSigned w128 c.sum_over_pairs.result = search rules in
    simp (to_z-of_z d, to_z-of_z n) (rw c.sum_over_pairs.ensures.value (simpson_is l.num l.den y c.args.from c.args.pairs l.positive h c.requires))
