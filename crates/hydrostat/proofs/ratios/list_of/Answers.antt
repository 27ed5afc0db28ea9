use Rattle.std.proofs.Common.{rules, ◌*ℤ◌, ◌-ℤ◌, ◌≤ℤ◌, ◌<ℤ◌, ℤ, pos, FitsSigned, to_z-of_z, arith, sym, refl}
use Rattle.std.specs.Int.{w128}
use Rattle.units_core.proofs.Signed.{signed_arith}
use Rattle.hydrostat.proofs.Sizes.{sizes}
use Rattle.units_core.proofs.Ratios.{is_over, is_difference}
use Rattle.units_core.specs.Ratio.{◌over◌, ◌⊖◌, Is}
use Rattle.hydrostat.proofs.Textbook.{list_is}
use Rattle.hydrostat.proofs.ratios.list_of.Goals as goal

gm_is : (k g u w : ℤ) → pos 1 ≤ℤ g → pos 1 ≤ℤ w → Is ((k *ℤ w) -ℤ (u *ℤ g)) (g *ℤ w) ((k over g) ⊖ (u over w))
gm_is k g u w hg hw = is_difference k g u w (k over g) (u over w) (is_over k g hg) (is_over u w hw)

pub returns : goal.returns
returns c =
    let a = c.args.a.now in
    let s = sizes c.args.a.now in
    let den : FitsSigned w128 c.gm_top-den.result = search rules in
    let top : FitsSigned w128 c.list_top.result = search rules in
    let test = simp to_z-of_z at c.if-den-le0.false in
    let positive : pos 1 ≤ℤ c.gm_top-den.result = omega (arith, signed_arith, test) in
    let above : pos 0 <ℤ ((a.kmt *ℤ a.kg) -ℤ (a.upright *ℤ a.gap)) = rw (sym c.gm_top-den.ensures.value) (omega (arith, signed_arith)) in
    let is = gm_is a.kmt a.gap a.upright a.kg a.gap_positive a.kg_positive in
    let list = list_is a.y a.gap a.kg ((a.kmt *ℤ a.kg) -ℤ (a.upright *ℤ a.gap)) (a.gap *ℤ a.kg) _ is a.gap_positive a.kg_positive (rw (sym c.gm_top-den.ensures.value) positive) refl in
    simp (to_z-of_z den, to_z-of_z top) (above, rw (c.list_top.ensures.value, c.gm_top-den.ensures.value) list, c.gm_top-den.ensures.size)
