-- The place of a cell, by the index of its key.
use Rattle.std.proofs.Common.{◌≡◌, ◌∙◌, ℕ, suc, ◌+◌, Bool, true, false, cond, nat_lt, List, [], ◌∷◌, length, zip, slice_get, All, IfSome, Option, None, Some, option_map, refl, ap, sym, arith, inl, inr}
use Rattle.std.proofs.lemmas.Bool.{cases_Bool}
use Rattle.std.proofs.lemmas.Bool.Decides.{nat_tests}
use Rattle.std.specs.List.{position, position_or_len}
use Rattle.std.specs.Map.{lookup}

-- what stands at an index, if there is one
abbrev pub at_index : {X : Type 0} → List X → Option ℕ → Option X
at_index xs None = None
at_index xs (Some i) = slice_get xs i

at_index-suc : {X : Type 0} (x : X) (xs : List X) (o : Option ℕ) → at_index (x ∷ xs) (option_map suc o) ≡ at_index xs o
at_index-suc x xs None = refl
at_index-suc x xs (Some i) = refl

at_index-nil : {X : Type 0} (o : Option ℕ) → at_index {X = X} [] o ≡ None
at_index-nil None = refl
at_index-nil (Some i) = refl

-- one place further on
further : (m n : ℕ) → ◌≡◌ {A = Option ℕ} (cond (nat_lt (1 + m) (suc n)) (Some (1 + m)) None) (option_map suc (cond (nat_lt m n) (Some m) None))
further m n =
    elim (cases_Bool (nat_lt m n)) [
      | inl less ↦ let next : nat_lt (1 + m) (suc n) ≡ true = grind (arith, nat_tests, less) in rw (next, less) (ap Some (omega arith))
      | inr more ↦ let next : nat_lt (1 + m) (suc n) ≡ false = grind (arith, nat_tests, more) in rw (next, more) refl
    ]

-- the index of the first that passes, among one more at the front
pub position-cons : {K : Type 0} (test : K → Bool) (k : K) (ks : List K) → position test (k ∷ ks) ≡ cond (test k) (Some 0) (option_map suc (position test ks))
position-cons test k ks =
    elim (cases_Bool (test k)) [
      | inl here ↦ let first : nat_lt 0 (suc (length ks)) ≡ true = grind (arith, nat_tests) in rw (here, first) refl
      | inr other ↦ rw other (further (position_or_len test ks) (length ks))
    ]

-- the value beside the first key that passes
pub lookup-zip : {K X : Type 0} (test : K → Bool) (ks : List K) (xs : List X) → lookup test (zip ks xs) ≡ at_index xs (position test ks)
lookup-zip test [] xs = refl
lookup-zip test (k ∷ ks) [] = sym (at_index-nil (position test (k ∷ ks)))
lookup-zip test (k ∷ ks) (x ∷ xs) =
    rw position-cons
    (elim (cases_Bool (test k)) [
      | inl here ↦ rw here refl
      | inr other ↦ rw other (lookup-zip test ks xs ∙ sym (at_index-suc x xs (position test ks)))
    ])

-- what every value keeps, the one that is found keeps
pub lookup-kept : {K X : Type 0} (test : K → Bool) (P : X → Type 0) (entries : List (K × X)) → All (λ e. P e.1) entries → IfSome (lookup test entries) P
lookup-kept test P [] h = tt
lookup-kept test P (e ∷ es) h =
    let first = h 0 e (omega arith) in
    let rest = lookup-kept test P es (λ k d inside. h (suc k) d (omega arith)) in
    elim (cases_Bool (test e.0)) [
      | inl here ↦ rw here first
      | inr other ↦ rw other rest
    ]
