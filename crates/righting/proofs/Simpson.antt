-- Simpson's sum of numbers over one divisor.
use Rattle.std.proofs.Common.{◌≡◌, ℕ, zero, suc, ℤ, pos, ◌+◌, ◌*◌, ◌≤◌, ◌≤ℤ◌, ◌+ℤ◌, arith, List}
use Rattle.units_core.proofs.Signed.{signed_arith}
use Rattle.units_core.specs.Ratio.{Ratio, Is}
use Rattle.units_core.proofs.Ratios.{is_sum_over, is_times, is_zero}
use Rattle.righting.specs.Sums.{pair_top, simpson_top}
use Rattle.righting.specs.Levers.{AreOrdinates, simpson}

-- Simpson's sum of the numbers is that of the ordinates
pub simpson_is : (ns : List ℤ) (d : ℤ) (y : ℕ → Ratio) (k n : ℕ) → pos 1 ≤ℤ d → AreOrdinates ns d y → k + 2 * n ≤ 12 → Is (simpson_top ns k n) d (simpson y k n)
simpson_is ns d y k zero h a e = is_zero d h
simpson_is ns d y k (suc n) h a e =
    let i = k + 2 * n in
    let first = a i (omega arith) in
    let middle = is_times (pos 4) _ _ _ (a (i + 1) (omega arith)) in
    let last = a (i + 2) (omega arith) in
    is_sum_over _ _ _ _ _ (simpson_is ns d y k n h a (omega arith)) (is_sum_over _ _ _ _ _ (is_sum_over _ _ _ _ _ first middle) last)

-- the sum on one pair alone
pub one_pair : (ns : List ℤ) (k : ℕ) → simpson_top ns k 1 ≡ pair_top ns (k + 0)
one_pair ns k = nothing_more (pair_top ns (k + 0)) where
  nothing_more : (z : ℤ) → pos 0 +ℤ z ≡ z
  nothing_more z = omega (arith, signed_arith)
