-- How many rows there are, and how the count of joins rises.
use Rattle.std.proofs.Common.{◌≡◌, ℕ, zero, suc, ◌+◌, ◌-◌, ◌*◌, ◌/◌, ◌%◌, ◌^◌, ◌<◌, ◌≤◌, arith, ap, mul-le-mul_left, lt_of_not-le, refl, subst}
use Rattle.std.proofs.Math.Nat.{pow-succ'}
use Rattle.std.proofs.Math.Pow.{pow_mono}
use mathlib.Core.Logic.{dite}
use native.Mathlib.Decide.{dec_le}

-- one row more, above a row that isn't empty: two to the power of their number stays within twice the length and one
pub grow_tall : (n len most : ℕ) → 2 ^ n * len ≤ most → 0 < len → 2 ^ suc n ≤ 2 * most + 1
grow_tall n len most h some = let one : 1 ≤ len = omega arith in omega (arith, pow-succ' 2 n, mul-le-mul_left (2 ^ n) one)

-- and the row above has at most half the length
pub grow_low : (n len most : ℕ) → 2 ^ n * len ≤ most → 2 ^ suc n * (len / 2) ≤ most
grow_low n len most h =
    let le : 2 * (len / 2) ≤ len = omega arith in
    let two = ap (λ p. p * (len / 2)) (pow-succ' 2 n) in
    omega (arith, two, mul-le-mul_left (2 ^ n) le)

-- with n values of which 2 ^ k is at least as many, there are at most k + 1 rows
pub few_rows : (rows n k : ℕ) → 2 ^ rows ≤ 2 * n + 1 → n ≤ 2 ^ k → rows ≤ k + 1
few_rows rows n k tall fits =
    dite (dec_le rows (k + 1)) (λ le. le) (λ not.
    let more : suc (suc k) ≤ rows = let lt = lt_of_not-le not in omega arith in
    let high = pow_mono more in
    let a = pow-succ' 2 (suc k) in
    let b = pow-succ' 2 k in
    let one : 1 ≤ 2 ^ k = pow_mono (let z : 0 ≤ k = omega arith in z) in
    absurd (omega arith))

-- over the empty list there is none
pub no_rows : (rows : ℕ) → 2 ^ rows ≤ 1 → rows ≡ 0
no_rows zero h = refl
no_rows (suc rows) h = let one : 1 ≤ 2 ^ rows = pow_mono (let z : 0 ≤ rows = omega arith in z) in absurd (omega (arith, pow-succ' 2 rows))

-- with one more join below its greatest value the count is above every earlier one that was below it
pub count_rises : (before old new most : ℕ) → before ≤ old → before < most → (old < most → new ≡ old + 1) → old ≤ new → before < new
count_rises before old new most le low one grows = dite (dec_le most old) (λ full. omega arith) (λ not. let more = one (lt_of_not-le not) in omega arith)

pub count_goes_on : (before old new most : ℕ) → before ≤ old → before < most → (old < most → old < new) → old ≤ new → before < new
count_goes_on before old new most le low one grows = dite (dec_le most old) (λ full. omega arith) (λ not. let more = one (lt_of_not-le not) in omega arith)

spread : (m n : ℕ) → m * (n + 1) ≡ m * n + m
spread m n = grind arith

-- a join for each of so many values in one row more, and in all rows but the first
pub row_cost : (values rows before old new : ℕ) → old ≤ before + values * rows → new ≤ old + values → new ≤ before + values * (rows + 1)
row_cost values rows before old new le more = omega (arith, le, more, spread values rows)

pub rows_cost : (values rows all before old new : ℕ) → old ≤ before + values * rows → new ≤ old → rows + 1 ≤ all → new + values ≤ before + values * all
rows_cost values rows all before old new le same few = omega (arith, le, same, spread values rows, mul-le-mul_left values few)

pub stretch_cost : (values rows k old new : ℕ) → rows ≤ k + 1 → new + values ≤ old + values * rows → new ≤ old + values * k
stretch_cost values rows k old new few le = omega (arith, le, spread values k, mul-le-mul_left values few)

-- half a number below a power of two is below the power before it
pub half_below : (a k r : ℕ) → a < 2 ^ (k - r) → a / 2 < 2 ^ (k - (r + 1))
half_below a k r h =
    dite (dec_le (r + 1) k)
    (λ more. let e : k - r ≡ suc (k - (r + 1)) = omega arith in
    let two = pow-succ' 2 (k - (r + 1)) in
    let below : a < 2 ^ suc (k - (r + 1)) = subst (λ n. a < 2 ^ n) e h in
    omega arith)
    (λ not. let le = lt_of_not-le not in
    let e : k - r ≡ 0 = omega arith in
    let none : a < 2 ^ 0 = subst (λ n. a < 2 ^ n) e h in
    let one : 1 ≤ 2 ^ (k - (r + 1)) = pow_mono (let z : 0 ≤ k - (r + 1) = omega arith in z) in
    omega arith)

-- where an odd number is below the power, it is no power of less than one
pub odd_inside : (a k r : ℕ) → a % 2 ≡ 1 → a < 2 ^ (k - r) → r < k
odd_inside a k r odd h =
    dite (dec_le (r + 1) k)
    (λ more. omega arith)
    (λ not. let le = lt_of_not-le not in
    let e : k - r ≡ 0 = omega arith in
    let none : a < 2 ^ 0 = subst (λ n. a < 2 ^ n) e h in
    absurd (omega arith))
