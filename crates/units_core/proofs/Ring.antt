use Rattle.std.proofs.Common.{◌*ℤ◌, ◌+ℤ◌, ◌-ℤ◌, ◌≡◌, ℕ, ◌+◌, ◌*◌, arith, ℤ, pos, ap}
use borrow.Author.Differences.{up, down, same_in, product_is}
use Rattle.units_core.proofs.Signed.{signed_arith}

-- the number p - n
pub diff : ℕ → ℕ → ℤ
diff p n = pos p -ℤ pos n

pub diff_of : (z : ℤ) → z ≡ diff (up z) (down z)
unfolding diff
diff_of z = same_in _ _ (omega (arith, signed_arith))

pub diff_same : (p n q m : ℕ) → p + m ≡ q + n → diff p n ≡ diff q m
unfolding diff
diff_same p n q m e = same_in _ _ (omega (arith, signed_arith))

pub diff_sum : (p n q m : ℕ) → diff p n +ℤ diff q m ≡ diff (p + q) (n + m)
unfolding diff
diff_sum p n q m = same_in _ _ (omega (arith, signed_arith))

pub diff_less : (p n q m : ℕ) → diff p n -ℤ diff q m ≡ diff (p + m) (n + q)
unfolding diff
diff_less p n q m = same_in _ _ (omega (arith, signed_arith))

pub diff_is : (p n : ℕ) → up (diff p n) + n ≡ down (diff p n) + p
unfolding diff
diff_is p n = omega (arith, signed_arith)

pub diff_times : (p n q m : ℕ) → diff p n *ℤ diff q m ≡ diff (p * q + n * m) (p * m + n * q)
diff_times p n q m =
    let a = diff p n in
    let b = diff q m in
    let e = diff_is p n in
    let f = diff_is q m in
    let w = product_is (diff p n) (diff q m) in
    let g = diff_is (p * q + n * m) (p * m + n * q) in
    same_in _ _ (omega (arith, w, g, ap (λ k. k * up b) e, ap (λ k. k * down b) e, ap (λ k. p * k) f, ap (λ k. n * k) f))

-- for `simp`: after `rw (diff_of a, diff_of b, ..)` every sum, difference and product of a, b, .. is one difference
pub ruleset differences = (diff_times, diff_sum, diff_less)

pub times_one : (z : ℤ) → z *ℤ pos 1 ≡ z
times_one z = same_in _ _ (omega (arith, signed_arith))

pub one_times : (z : ℤ) → pos 1 *ℤ z ≡ z
one_times z = same_in _ _ (omega (arith, signed_arith))
