-- The interval of rising arguments in which a number lies.
use Rattle.std.proofs.Common.{◌≡◌, ◌∙◌, ℕ, zero, suc, ◌+◌, ◌-◌, ◌<◌, ◌≤◌, ◌⊎◌, inl, inr, ◌≤ℤ◌, ◌<ℤ◌, ℤ, pos, List, [], ◌∷◌, length, drop, drop-cons, Some, None, true, false, arith, refl, sym}
use Rattle.std.specs.Prelude.{int_lt}
use borrow.Author.Differences.{true_is_lt, false_is_lt}
use Rattle.units_core.specs.Interpolation.{at, interval, climb, IsRising}
use Rattle.units_core.proofs.Signed.{signed_arith}

-- the tests
is_below : (a b : ℤ) → a <ℤ b → int_lt a b ≡ true
is_below a b h = sym (true_is_lt a b (omega (arith, signed_arith)))

is_not_below : (a b : ℤ) → b ≤ℤ a → int_lt a b ≡ false
is_not_below a b h = sym (false_is_lt a b (omega (arith, signed_arith)))

-- a rising list is in order
pub in_order : (xs : List ℤ) → IsRising xs → (i d : ℕ) → i + d < length xs → at xs i ≤ℤ at xs (i + d)
in_order xs r i zero h = let same : i ≡ i + 0 = omega arith in rw (← same) (omega (arith, signed_arith))
in_order xs r i (suc d) h =
    let before = in_order xs r i d (omega arith) in
    let step = r (i + d) (omega arith) in
    let next : i + d + 1 ≡ i + suc d = omega arith in
    rw (← next) (omega (arith, signed_arith, before, step))

-- past the upper ends that are below x
climb_past : (xs : List ℤ) (x : ℤ) (i j n : ℕ) → i + n < length xs → ((k : ℕ) → k < n → at xs (i + k) <ℤ x) → x ≤ℤ at xs (i + n) → climb (drop i xs) x j ≡ Some (j + n)
climb_past xs x i j zero h below upper =
    let here : i + 0 ≡ i = omega arith in
    let none : j ≡ j + 0 = omega arith in
    rw (← none, drop-cons xs i (pos 0) (omega arith), is_not_below (at xs i) x (rw here at upper)) refl
climb_past xs x i j (suc n) h below upper =
    let first : i + 0 ≡ i = omega arith in
    let low : at xs i <ℤ x = rw first at (below 0 (omega arith)) in
    let more = climb_past xs x (suc i) (j + 1) n (omega arith) (λ k q. let e : suc i + k ≡ i + suc k = omega arith in rw e (below (suc k) (omega arith))) (let e : suc i + n ≡ i + suc n = omega arith in rw e upper) in
    let sum : j + 1 + n ≡ j + suc n = omega arith in
    rw (drop-cons xs i (pos 0) (omega arith), is_below (at xs i) x low) (rw sum at more)

begins : (xs : List ℤ) (x : ℤ) → 1 ≤ length xs → at xs 0 ≤ℤ x → interval xs x ≡ climb (drop 1 xs) x 0
begins [] x h k = absurd (omega arith)
begins (a ∷ xs) x h k = rw (is_not_below x a k) refl

pub interval_is : (xs : List ℤ) (x : ℤ) (i : ℕ) → IsRising xs → i + 1 < length xs → at xs 0 ≤ℤ x → x ≤ℤ at xs (i + 1) → (i ≡ 0) ⊎ (at xs i <ℤ x) → interval xs x ≡ Some i
interval_is xs x i r h low upper past =
    let below : (k : ℕ) → k < i → at xs (1 + k) <ℤ x = λ k q. earlier xs x i k r h q past in
    let e : 1 + i ≡ i + 1 = omega arith in
    let z : 0 + i ≡ i = omega arith in
    begins xs x (omega arith) low ∙ rw z at (climb_past xs x 1 0 i (omega arith) below (rw e upper))
  where
    earlier : (xs : List ℤ) (x : ℤ) (i k : ℕ) → IsRising xs → i + 1 < length xs → k < i → (i ≡ 0) ⊎ (at xs i <ℤ x) → at xs (1 + k) <ℤ x
    earlier xs x i k r h q (inl none) = absurd (omega arith)
    earlier xs x i k r h q (inr less) =
        let d : (1 + k) + (i - (1 + k)) ≡ i = omega arith in
        let order = in_order xs r (1 + k) (i - (1 + k)) (omega arith) in
        let reached : at xs (1 + k) ≤ℤ at xs i = rw d at order in
        omega (arith, signed_arith, reached, less)

pub below_table : (xs : List ℤ) (x : ℤ) → 1 ≤ length xs → x <ℤ at xs 0 → interval xs x ≡ None
below_table [] x h k = refl
below_table (a ∷ xs) x h k = rw (is_below x a k) refl

-- past all upper ends
nothing_left : (xs : List ℤ) (x : ℤ) (i j : ℕ) → length xs ≤ i → climb (drop i xs) x j ≡ None
nothing_left [] x zero j h = refl
nothing_left [] x (suc i) j h = refl
nothing_left (a ∷ xs) x zero j h = absurd (omega arith)
nothing_left (a ∷ xs) x (suc i) j h = nothing_left xs x i j (omega arith)

climb_all : (xs : List ℤ) (x : ℤ) (i j n : ℕ) → i + n ≡ length xs → ((k : ℕ) → k < length xs → at xs k <ℤ x) → climb (drop i xs) x j ≡ None
climb_all xs x i j zero h below = nothing_left xs x i j (omega arith)
climb_all xs x i j (suc n) h below =
    let more = climb_all xs x (suc i) (j + 1) n (omega arith) below in
    rw (drop-cons xs i (pos 0) (omega arith), is_below (at xs i) x (below i (omega arith))) more

up_to_last : (xs : List ℤ) → IsRising xs → (k : ℕ) → k < length xs → at xs k ≤ℤ at xs (length xs - 1)
up_to_last xs r k h =
    let e : k + (length xs - 1 - k) ≡ length xs - 1 = omega arith in
    rw e at (in_order xs r k (length xs - 1 - k) (omega arith))

pub above_table : (xs : List ℤ) (x : ℤ) → IsRising xs → 1 ≤ length xs → at xs (length xs - 1) <ℤ x → interval xs x ≡ None
above_table xs x r h above =
    let below : (k : ℕ) → k < length xs → at xs k <ℤ x = λ k q. omega (arith, signed_arith, up_to_last xs r k q, above) in
    begins xs x h (omega (arith, signed_arith, below 0 h)) ∙ climb_all xs x 1 0 (length xs - 1) (omega arith) below
