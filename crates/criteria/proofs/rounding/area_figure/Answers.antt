use Rattle.std.proofs.Common.{rules, ◌≡◌, ◌∙◌, ◌^◌, ◌*ℤ◌, ℤ, pos, refl, FitsSigned, to_z-of_z, arith}
use Rattle.std.specs.Int.{w128}
use Rattle.units_core.proofs.Signed.{signed_arith, product_within, fits_within}
use Rattle.units_core.proofs.Ratios.{is_whole, is_product, is_quotient, is_reduced, one_positive}
use Rattle.units_core.specs.Ratio.{Ratio, whole, Is}
use Rattle.righting.specs.Levers.{mm_degrees}
use Rattle.units_core.proofs.Decisions.{floor_same}
use Rattle.criteria.proofs.rounding.area_figure.Goals as goal

area_is : (n d : ℤ) (r : Ratio) → Is n d r → Is (pos 5 *ℤ n) (pos 3 *ℤ d) (mm_degrees r)
area_is n d r p =
    is_reduced (pos 5 *ℤ n) (pos 3 *ℤ d) (pos 1) ((pos 5 *ℤ n) *ℤ pos 1) ((pos 1 *ℤ d) *ℤ pos 3) (mm_degrees r)
    (is_quotient _ _ (pos 3) (pos 1) _ (whole (pos 3)) (is_product (pos 5) (pos 1) n d (whole (pos 5)) r (is_whole (pos 5)) p) (is_whole (pos 3)) (omega (arith, signed_arith)))
    one_positive refl (turned d) where
      turned : (d : ℤ) → (pos 1 *ℤ d) *ℤ pos 3 ≡ (pos 3 *ℤ d) *ℤ pos 1
      turned d = omega (arith, signed_arith)

pub returns : goal.returns
returns c = λ r p.
    let q : FitsSigned w128 c.floor_near.result = search rules in
    let n : FitsSigned w128 c.args.sum.num = fits_within _ _ c.requires.num (omega arith) in
    let d : FitsSigned w128 c.args.sum.den = fits_within _ _ c.requires.den (omega arith) in
    let n5 : FitsSigned w128 (pos 5 *ℤ c.args.sum.num) = fits_within _ _ (product_within (pos 5) c.args.sum.num 5 (10 ^ 32) (omega arith) c.requires.num) (omega arith) in
    let d3 : FitsSigned w128 (pos 3 *ℤ c.args.sum.den) = fits_within _ _ (product_within (pos 3) c.args.sum.den 3 (10 ^ 23) (omega arith) c.requires.den) (omega arith) in
    simp (to_z-of_z q) ((simp (to_z-of_z n, to_z-of_z d, to_z-of_z n5, to_z-of_z d3) at c.floor_near.ensures) ∙ floor_same (pos 5 *ℤ c.args.sum.num) (pos 3 *ℤ c.args.sum.den) (mm_degrees r) (area_is c.args.sum.num c.args.sum.den r p))
