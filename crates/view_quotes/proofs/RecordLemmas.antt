-- The records that are left of a list behind some of them.
use Rattle.std.proofs.Common.{◌≡◌, ℕ, zero, suc, ◌+◌, ◌<◌, ◌≤◌, List, [], ◌∷◌, length, drop, Option, None, Some, slice_get, refl, subst, arith}
use Rattle.csv.specs.Records.{field_at}
use Rattle.csv_text.specs.Reading.{Fields}

pub left_more : {X : Type 0} (xs : List X) (i : ℕ) (y : X) (ys : List X) → drop i xs ≡ y ∷ ys → drop (i + 1) xs ≡ ys
left_more [] zero y ys e = cc
left_more (x ∷ xs) zero y ys e = cc
left_more [] (suc i) y ys e = cc
left_more (x ∷ xs) (suc i) y ys e =
    let n : suc (i + 1) ≡ suc i + 1 = omega arith in
    subst (λ (k : ℕ). drop k (x ∷ xs) ≡ ys) n (left_more xs i y ys e)

pub left_first : {X : Type 0} (xs : List X) (i : ℕ) (y : X) (ys : List X) → drop i xs ≡ y ∷ ys → slice_get xs i ≡ Some y
left_first [] zero y ys e = cc
left_first (x ∷ xs) zero y ys e = cc
left_first [] (suc i) y ys e = cc
left_first (x ∷ xs) (suc i) y ys e = left_first xs i y ys e

pub left_none : {X : Type 0} (xs : List X) (i k : ℕ) → drop i xs ≡ [] → i ≤ k → slice_get xs k ≡ None
left_none [] i zero e h = refl
left_none [] i (suc k) e h = refl
left_none (x ∷ xs) zero k e h = cc
left_none (x ∷ xs) (suc i) zero e h = absurd (omega arith)
left_none (x ∷ xs) (suc i) (suc k) e h = left_none xs i k e (omega arith)

-- records whose fields are the same, each by its place
pub same_by_fields : (xs ys : Fields) → length xs ≡ length ys → ((j : ℕ) → j < length xs → field_at xs j ≡ field_at ys j) → xs ≡ ys
unfolding field_at
same_by_fields [] [] l h = refl
same_by_fields [] (y ∷ ys) l h = absurd (omega (arith, l))
same_by_fields (x ∷ xs) [] l h = absurd (omega (arith, l))
same_by_fields (x ∷ xs) (y ∷ ys) l h =
    let first : ◌≡◌ {A = Option (List ℕ)} (Some x) (Some y) = h 0 (omega arith) in
    let rest = same_by_fields xs ys (omega (arith, l)) (λ j low. h (suc j) (omega (arith, low))) in
    let e : x ≡ y = cc first in
    cc (e, rest)
