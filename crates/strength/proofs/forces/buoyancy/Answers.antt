use Rattle.std.proofs.Common.{rules, pos, ◌*ℤ◌, FitsSigned, to_z-of_z, arith, refl, ◌∙◌}
use Rattle.std.specs.Int.{w64}
use Rattle.units_core.proofs.Signed.{signed_arith}
use Rattle.units_core.specs.Ratio.{◌over◌, floor_of}
use Rattle.strength.specs.Buoyancy.{force_top}
use Rattle.strength.proofs.Adding.{fewer, rounded}
use Rattle.strength.proofs.forces.buoyancy.Goals as goal

pub returns-clause-value : goal.returns-clause-value
returns-clause-value c =
    let q : FitsSigned w64 c.buoyancy_of.result = search rules in
    let down = simp (to_z-of_z c.ranges.volume) at c.buoyancy_of.ensures.value in
    λ xs ys n e. to_z-of_z q ∙ (down ∙ (fewer c.args.volume ∙ ((λ i. floor_of ((e i *ℤ pos 1025) over pos 20000000)) ∙ rounded (force_top xs ys) (pos 2) (pos 20000000) (omega (arith, signed_arith)) n refl)))
