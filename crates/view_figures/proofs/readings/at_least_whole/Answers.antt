use Rattle.std.proofs.Common.{rules, FitsSigned, to_z-of_z}
use Rattle.std.specs.Int.{w64}
use Rattle.units_core.specs.Ratio.{Is, whole}
use Rattle.units_core.proofs.Ratios.{is_whole}
use Rattle.view_figures.proofs.readings.at_least_whole.Goals as goal

pub returns : goal.returns
returns c =
    let fl : FitsSigned w64 c.args.least = search rules in
    let num = simp (to_z-of_z fl) at c.whole.ensures.num in
    let limit : Is c.whole.result.num c.whole.result.den (whole c.args.least) = rw (num, c.whole.ensures.den) (is_whole c.args.least) in
    λ v p. c.at_least.ensures v (whole c.args.least) p limit
