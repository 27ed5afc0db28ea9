use Rattle.std.proofs.Common.{rules, ◌≡◌, ◌∙◌, ℤ, ◌*ℤ◌, FitsSigned, to_z-of_z, sym}
use Rattle.std.specs.Int.{w64, w128}
use Rattle.units_core.proofs.Signed.{associates, product_within}
use Rattle.righting.proofs.heeled.triple.Goals as goal

-- the smaller two multiplied first, in the other order
grouped : (r a p a' b' d' : ℤ) → r ≡ a *ℤ p → a ≡ a' → p ≡ b' *ℤ d' → r ≡ (a' *ℤ b') *ℤ d'
grouped r a p a' b' d' e f g = e ∙ ((λ i. f i *ℤ g i) ∙ sym (associates a' b' d'))

pub returns-clause-value : goal.returns-clause-value
returns-clause-value c =
    let a : FitsSigned w64 c.short.result = search rules in
    let b : FitsSigned w64 c.short-2.result = search rules in
    let d : FitsSigned w64 c.short-3.result = search rules in
    let p : FitsSigned w64 c.short_product.result = search rules in
    let r : FitsSigned w128 c.product.result = search rules in
    let first = simp (to_z-of_z c.ranges.a) at c.short.ensures in
    let second = simp (to_z-of_z c.ranges.b) at c.short-2.ensures in
    let third = simp (to_z-of_z c.ranges.d) at c.short-3.ensures in
    let smaller = simp (to_z-of_z b, to_z-of_z d) at c.short_product.ensures ∙ (λ i. second i *ℤ third i) in
    to_z-of_z r ∙ grouped c.product.result c.short.result c.short_product.result c.args.a c.args.b c.args.d (simp (to_z-of_z a, to_z-of_z p) at c.product.ensures) first smaller

pub returns-clause-size : goal.returns-clause-size
returns-clause-size c =
    λ m n h k.
    let a : FitsSigned w64 c.short.result = search rules in
    let b : FitsSigned w64 c.short-2.result = search rules in
    let d : FitsSigned w64 c.short-3.result = search rules in
    let p : FitsSigned w64 c.short_product.result = search rules in
    let r : FitsSigned w128 c.product.result = search rules in
    let first = simp (to_z-of_z c.ranges.a) at c.short.ensures in
    let second = simp (to_z-of_z c.ranges.b) at c.short-2.ensures in
    let third = simp (to_z-of_z c.ranges.d) at c.short-3.ensures in
    let smaller = simp (to_z-of_z b, to_z-of_z d) at c.short_product.ensures ∙ (λ i. second i *ℤ third i) in
    let value = grouped c.product.result c.short.result c.short_product.result c.args.a c.args.b c.args.d (simp (to_z-of_z a, to_z-of_z p) at c.product.ensures) first smaller in
    simp (to_z-of_z r) (rw value (product_within (c.args.a *ℤ c.args.b) c.args.d _ _ (product_within c.args.a c.args.b m n h k) c.requires.d))
