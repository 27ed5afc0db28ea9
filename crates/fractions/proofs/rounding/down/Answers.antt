use Rattle.std.proofs.Common.{rules, ◌∙◌, pos, ◌*ℤ◌, FitsSigned, to_z-of_z}
use Rattle.std.specs.Int.{w128}
use Rattle.units_core.specs.Ratio.{◌over◌, floor_of}
use Rattle.units_core.proofs.Decisions.{floor_same}
use Rattle.fractions.proofs.RoundingLemmas.{times_is}
use Rattle.fractions.proofs.rounding.down.Goals as goal

pub returns : goal.returns
returns c =
    let f = c.args.fraction in
    let s = c.args.scale in
    let q : FitsSigned w128 c.floor.result = search rules in
    λ r p. to_z-of_z q ∙ c.floor.ensures.value ∙ (λ j. floor_of (c.times.ensures.num j over c.times.ensures.den j))
    ∙ floor_same (f.num *ℤ pos s) f.den ((r.top *ℤ pos s) over r.bottom) (times_is f.num f.den r s p)
