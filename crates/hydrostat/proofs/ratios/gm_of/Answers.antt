use Rattle.std.proofs.Common.{rules, ◌*ℤ◌, ◌-ℤ◌, ◌≤ℤ◌, ℤ, pos, FitsSigned, to_z-of_z}
use Rattle.std.specs.Int.{w128}
use Rattle.hydrostat.proofs.Sizes.{sizes}
use Rattle.units_core.proofs.Ratios.{is_over, is_difference}
use Rattle.units_core.specs.Ratio.{◌over◌, ◌⊖◌, Is}
use Rattle.hydrostat.proofs.ratios.gm_of.Goals as goal

gm_is : (k g u w : ℤ) → pos 1 ≤ℤ g → pos 1 ≤ℤ w → Is ((k *ℤ w) -ℤ (u *ℤ g)) (g *ℤ w) ((k over g) ⊖ (u over w))
gm_is k g u w hg hw = is_difference k g u w (k over g) (u over w) (is_over k g hg) (is_over u w hw)

pub invariant_of-result : goal.invariant_of-result
invariant_of-result c =
    let s = sizes c.args.a.now in
    record { positive = simp (to_z-of_z s.gap, to_z-of_z s.kg, to_z-of_z s.gap_kg) s.gap_kg_positive }

pub returns-clause-value : goal.returns-clause-value
returns-clause-value c =
    let a = c.args.a.now in
    let s = sizes c.args.a.now in
    let top : FitsSigned w128 c.gm_top.result = search rules in
    simp (to_z-of_z s.gap, to_z-of_z s.kg, to_z-of_z s.gap_kg, to_z-of_z top) (rw c.gm_top.ensures.value (gm_is a.kmt a.gap a.upright a.kg a.gap_positive a.kg_positive))

pub returns-clause-den : goal.returns-clause-den
returns-clause-den c =
    let s = sizes c.args.a.now in
    simp (to_z-of_z s.gap, to_z-of_z s.kg, to_z-of_z s.gap_kg) s.gap_kg_size
