-- The greatest of some ordinates.
use Rattle.std.proofs.Common.{◌≡◌, ℕ, ◌+◌, ◌-◌, ◌<◌, ◌≤◌, List, ℤ, true, false, Some, sym, ap, ◌∙◌, arith}
use borrow.Author.Differences.{true_is_le, false_is_le}
use Rattle.units_core.proofs.Signed.{signed_arith}
use Rattle.units_core.specs.Interpolation.{at}
use Rattle.units_core.specs.Ratio.{Ratio, is_no_more}
use Rattle.righting.specs.Levers.{AreOrdinates, IsGreatest, greatest_of, is_top}
use Rattle.units_core.proofs.Decisions.{no_more_same}
use Rattle.units_core.proofs.Ranges.{range_all, range_find, range_not_all}

pub greatest_is : (ns : List ℤ) (d : ℤ) (y : ℕ → Ratio) (k n best : ℕ) → AreOrdinates ns d y → k + n ≤ 13 → IsGreatest ns k (k + n) best → greatest_of y k n ≡ Some best
unfolding greatest_of
greatest_is ns d y k n best are few g =
    let there : best < k + n = g.there in
    let from : k ≤ best = g.from in
    let at_best : k + (best - k) ≡ best = omega arith in
    let top : is_top y k n best ≡ true = range_all (λ i. is_no_more (y i) (y best)) k n (λ i low high.
    sym (no_more_same (at ns i) (at ns best) d (y i) (y best) (are i (omega arith)) (are best (omega arith)))
    ∙ sym (true_is_le (at ns i) (at ns best) (omega (arith, signed_arith, g.greatest i low high)))) in
    let earlier : (i : ℕ) → k ≤ i → i < k + (best - k) → is_top y k n i ≡ false = λ i low high.
    let less : best - k < n = omega arith in
    range_not_all (λ j. is_no_more (y j) (y i)) k n (best - k) less (rw at_best (
    sym (no_more_same (at ns best) (at ns i) d (y best) (y i) (are best (omega arith)) (are i (omega arith)))
    ∙ sym (false_is_le (at ns best) (at ns i) (omega (arith, signed_arith, g.first i low (omega arith)))))) in
    range_find (is_top y k n) k n (best - k) (omega arith) earlier (rw at_best top) ∙ ap (λ m. Some m) at_best
