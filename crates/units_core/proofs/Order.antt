-- What a positive factor does to the order of signed numbers.
use Rattle.std.proofs.Common.{zero, suc, ◌+◌, ◌≤◌, ℤ, pos, negsuc, ◌*ℤ◌, ◌≤ℤ◌, ◌<ℤ◌, arith, mul-le-mul}
use Rattle.std.proofs.lemmas.Int.{by_lt_z}
use Rattle.units_core.proofs.Signed.{signed_arith}
use borrow.Author.Differences.{up, down}

-- a factor that is positive keeps the order
pub times_order : (x y d : ℤ) → pos 0 ≤ℤ d → x ≤ℤ y → (x *ℤ d) ≤ℤ (y *ℤ d)
times_order x y (pos d) h k =
    let same : up x + down y ≤ up y + down x = omega (arith, signed_arith) in
    let e : d ≤ d = omega arith in
    omega (arith, signed_arith, mul-le-mul same e)
times_order x y (negsuc d) h k = absurd (omega (arith, signed_arith))

pub times_strict : (x y d : ℤ) → pos 1 ≤ℤ d → x <ℤ y → (x *ℤ d) <ℤ (y *ℤ d)
times_strict x y (pos zero) h k = absurd (omega (arith, signed_arith))
times_strict x y (pos (suc d)) h k =
    let less : up x + down y + 1 ≤ up y + down x = omega (arith, signed_arith) in
    let e : suc d ≤ suc d = omega arith in
    omega (arith, signed_arith, mul-le-mul less e)
times_strict x y (negsuc d) h k = absurd (omega (arith, signed_arith))

-- and may be taken away
pub cancel_order : (x y d : ℤ) → pos 1 ≤ℤ d → (x *ℤ d) ≤ℤ (y *ℤ d) → x ≤ℤ y
cancel_order x y d h k = by_lt_z y x (λ less. absurd (omega (arith, signed_arith, times_strict y x d h less))) (λ le. le)
