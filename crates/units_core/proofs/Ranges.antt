-- Tests over a range of numbers.
use Rattle.std.proofs.Common.{◌≡◌, ℕ, zero, suc, ◌+◌, ◌<◌, ◌≤◌, Bool, true, false, ◌&&◌, Some, refl, arith}
use Rattle.std.specs.Prelude.{find}
use Rattle.std.specs.List.{list_all, range_with_len}

pub range_find : (p : ℕ → Bool) (k n j : ℕ) → j < n → ((i : ℕ) → k ≤ i → i < k + j → p i ≡ false) → p (k + j) ≡ true → find p (range_with_len k n) ≡ Some (k + j)
range_find p k zero j h none is = absurd (omega arith)
range_find p k (suc n) zero h none is = let here : k + 0 ≡ k = omega arith in rw here (rw (rw here at is) refl)
range_find p k (suc n) (suc j) h none is =
    let next : k + 1 + j ≡ k + suc j = omega arith in
    let rest = range_find p (k + 1) n j (omega arith) (λ i low high. none i (omega arith) (omega arith)) (rw next is) in
    rw (none k (omega arith) (omega arith)) (rw next at rest)

pub range_all : (p : ℕ → Bool) (k n : ℕ) → ((i : ℕ) → k ≤ i → i < k + n → p i ≡ true) → list_all p (range_with_len k n) ≡ true
range_all p k zero all = refl
range_all p k (suc n) all = rw (all k (omega arith) (omega arith)) (range_all p (k + 1) n (λ i low high. all i (omega arith) (omega arith)))

pub range_not_all : (p : ℕ → Bool) (k n j : ℕ) → j < n → p (k + j) ≡ false → list_all p (range_with_len k n) ≡ false
range_not_all p k zero j h is = absurd (omega arith)
range_not_all p k (suc n) zero h is = let here : k + 0 ≡ k = omega arith in rw (rw here at is) refl
range_not_all p k (suc n) (suc j) h is =
    let next : k + 1 + j ≡ k + suc j = omega arith in
    let rest = range_not_all p (k + 1) n j (omega arith) (rw next is) in
    either (p k) rest where
      either : (b : Bool) → list_all p (range_with_len (k + 1) n) ≡ false → (b && list_all p (range_with_len (k + 1) n)) ≡ false
      either true h = h
      either false h = refl
