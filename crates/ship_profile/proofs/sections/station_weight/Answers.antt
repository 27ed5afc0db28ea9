use Rattle.std.proofs.Common.{rules, arith, ◌≡◌, ◌∙◌, ℕ, zero, suc, List, [], ◌∷◌, get_or, refl, to_z, of_z, ℤ, pos, ◌*◌, ◌^◌, ◌+◌, ◌-◌, ◌≤◌, ◌<◌, ◌+ℤ◌, ◌-ℤ◌, ◌*ℤ◌, unsigned_abs, length, FitsSigned, to_z-of_z, sym}
use Rattle.std.specs.Int.{w64}
use Rattle.std.proofs.lemmas.Int.{fits_signed_from_abs}
use Rattle.units_core.specs.Interpolation.{at}
use Rattle.units_core.proofs.Signed.{difference_within, sum_within}
use Rattle.ship_profile.proofs.sections.station_weight.Goals as goal

pub overflow_add-result : goal.overflow_add-result
overflow_add-result c =
    let a : FitsSigned w64 c.moment_weight.result = search rules in
    let b : FitsSigned w64 c.moment_weight-2.result = search rules in
    let size = sum_within c.moment_weight.result c.moment_weight-2.result _ _ c.moment_weight.ensures.within c.moment_weight-2.ensures.within in
    simp (to_z-of_z a, to_z-of_z b) (fits_signed_from_abs w64 _ (omega (arith, size)))

-- inside a list it's the same which default is given
inside_same : (xs : List ℤ) (k : ℕ) (d e : ℤ) → k < length xs → get_or xs k d ≡ get_or xs k e
inside_same [] k d e h = absurd (omega arith)
inside_same (x ∷ xs) zero d e h = refl
inside_same (x ∷ xs) (suc k) d e h = inside_same xs k d e (omega arith)

pub returns : goal.returns
returns c =
    let xs = c.args.stations.now in
    let k = c.args.k in
    let inside : k + 1 < length xs = c.requires in
    let back : c.saturating_sub.result ≡ k - 1 = c.saturating_sub.ensures in
    let p : FitsSigned w64 c.mm-aft.result = search rules in
    let x : FitsSigned w64 c.mm-x.result = search rules in
    let z : FitsSigned w64 c.mm-fore.result = search rules in
    let a : FitsSigned w64 c.moment_weight.result = search rules in
    let b : FitsSigned w64 c.moment_weight-2.result = search rules in
    let size = sum_within c.moment_weight.result c.moment_weight-2.result _ _ c.moment_weight.ensures.within c.moment_weight-2.ensures.within in
    let both : FitsSigned w64 (c.moment_weight.result +ℤ c.moment_weight-2.result) = fits_signed_from_abs w64 _ (omega (arith, size)) in
    let far = difference_within c.mm-fore.result c.mm-aft.result _ _ c.mm-fore.ensures.within c.mm-aft.ensures.within in
    let near = difference_within c.mm-x.result c.mm-aft.result _ _ c.mm-x.ensures.within c.mm-aft.ensures.within in
    let next = difference_within c.mm-fore.result c.mm-x.result _ _ c.mm-fore.ensures.within c.mm-x.ensures.within in
    let over : FitsSigned w64 (c.mm-fore.result -ℤ c.mm-aft.result) = fits_signed_from_abs w64 _ (omega (arith, far)) in
    let before : FitsSigned w64 (c.mm-x.result -ℤ c.mm-aft.result) = fits_signed_from_abs w64 _ (omega (arith, near)) in
    let behind : FitsSigned w64 (c.mm-fore.result -ℤ c.mm-x.result) = fits_signed_from_abs w64 _ (omega (arith, next)) in
    let aft : c.mm-aft.result ≡ at xs (k - 1) = c.mm-aft.ensures.value ∙ (c.index-stations-saturating_sub.is ∙ ((λ j. get_or xs (back j) c.index-stations-saturating_sub.result) ∙ inside_same xs (k - 1) _ (pos 0) (omega (arith, inside)))) in
    let here : c.mm-x.result ≡ at xs k = c.mm-x.ensures.value ∙ (c.index-stations-k.is ∙ inside_same xs k _ (pos 0) (omega (arith, inside))) in
    let fore : c.mm-fore.result ≡ at xs (k + 1) = c.mm-fore.ensures.value ∙ (c.index-stations-k-2.is ∙ inside_same xs (k + 1) _ (pos 0) inside) in
    let first = simp (to_z-of_z p, to_z-of_z x, to_z-of_z before) at c.moment_weight.ensures.value in
    let second = simp (to_z-of_z x, to_z-of_z z, to_z-of_z behind) at c.moment_weight-2.ensures.value in
    let volume : to_z w64 (of_z w64 (to_z w64 (of_z w64 c.mm-fore.result) -ℤ to_z w64 (of_z w64 c.mm-aft.result))) ≡ c.mm-fore.result -ℤ c.mm-aft.result = simp (to_z-of_z p, to_z-of_z z, to_z-of_z over) in
    let moment : to_z w64 (of_z w64 (to_z w64 (of_z w64 c.moment_weight.result) +ℤ to_z w64 (of_z w64 c.moment_weight-2.result))) ≡ c.moment_weight.result +ℤ c.moment_weight-2.result = simp (to_z-of_z a, to_z-of_z b, to_z-of_z both) in
    let volume_is = volume ∙ (λ j. fore j -ℤ aft j) in
    let first_is : c.moment_weight.result ≡ (at xs k -ℤ at xs (k - 1)) *ℤ ((pos 2 *ℤ at xs k) +ℤ at xs (k - 1)) = first ∙ (λ j. (here j -ℤ aft j) *ℤ ((pos 2 *ℤ here j) +ℤ aft j)) in
    let second_is : c.moment_weight-2.result ≡ (at xs (k + 1) -ℤ at xs k) *ℤ ((pos 2 *ℤ at xs k) +ℤ at xs (k + 1)) = second ∙ (λ j. (fore j -ℤ here j) *ℤ ((pos 2 *ℤ here j) +ℤ fore j)) in
    let moment_is = moment ∙ (λ j. first_is j +ℤ second_is j) in
    λ j. record { volume = volume_is j; moment = moment_is j }
