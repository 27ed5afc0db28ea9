use Rattle.std.proofs.Common.{rules, ◌∙◌, ℤ, pos, ◌*ℤ◌, FitsSigned, to_z-of_z, subst}
use Rattle.std.specs.Int.{w128}
use Rattle.units_core.specs.Ratio.{Is, ◌over◌}
use Rattle.units_core.proofs.Decisions.{floor_same}
use Rattle.units_core.proofs.Ring.{times_one}
use Rattle.fractions.proofs.RoundingLemmas.{times_is}
use Rattle.view_figures.proofs.readings.units_down.Goals as goal

pub returns : goal.returns
returns c =
    let f = c.args.value in
    let q : FitsSigned w128 c.floor.result = search rules in
    λ r p. to_z-of_z q ∙ c.floor.ensures.value
    ∙ floor_same f.num f.den ((r.top *ℤ pos 1) over r.bottom) (subst (λ (x : ℤ). Is x f.den ((r.top *ℤ pos 1) over r.bottom)) (times_one f.num) (times_is f.num f.den r 1 p))
