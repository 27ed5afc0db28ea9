use Rattle.std.proofs.Common.{rules, ◌≡◌, ◌∙◌, sym, subst, arith, ℤ, ◌*ℤ◌, FitsSigned, to_z, of_z, to_z-of_z}
use Rattle.std.specs.Int.{w64, w128}
use Rattle.std.proofs.lemmas.Int.{fits_signed_from_abs}
use Rattle.units_core.specs.Ratio.{◌over◌, floor_of}
use Rattle.units_core.proofs.Signed.{fits_within, product_back, product_within}
use Rattle.moment_sums.proofs.shares.long_quotient.Goals as goal

-- the quotient as it was asked for
is : (c : goal.After-floor) → to_z w128 (of_z w128 c.floor.result) ≡ floor_of ((c.args.top *ℤ c.args.factor) over c.args.divisor)
is c =
    let a = c.args in
    let f1 : FitsSigned w128 c.from.result = search rules in
    let f2 : FitsSigned w128 c.from-2.result = search rules in
    let f3 : FitsSigned w128 c.from-3.result = search rules in
    let q : FitsSigned w128 c.floor.result = search rules in
    let size = product_within a.top a.factor _ _ c.requires.top c.requires.factor in
    let fits : FitsSigned w128 (a.top *ℤ a.factor) = fits_within _ _ size (omega arith) in
    let top = product_back a.top a.factor (to_z-of_z f1 ∙ c.from.ensures ∙ to_z-of_z c.ranges.top) (to_z-of_z f2 ∙ c.from-2.ensures ∙ to_z-of_z c.ranges.factor) fits in
    let bottom = to_z-of_z f3 ∙ c.from-3.ensures ∙ to_z-of_z c.ranges.divisor in
    to_z-of_z q ∙ c.floor.ensures.value ∙ (λ i. floor_of (top i over bottom i))

short : (c : goal.After-floor) → FitsSigned w64 (floor_of ((c.args.top *ℤ c.args.factor) over c.args.divisor))
short c = fits_signed_from_abs w64 _ (omega (arith, c.requires.within))

pub overflow_cast-result : goal.overflow_cast-result
overflow_cast-result c = subst (λ (z : ℤ). FitsSigned w64 z) (sym (is c)) (short c)

pub returns : goal.returns
returns c = (λ i. to_z w64 (of_z w64 (is c i))) ∙ to_z-of_z (short c)
