-- What is made one by one, each after those before it.
use Rattle.std.proofs.Common.{◌≡◌, ◌+◌, List, [], ◌∷◌, ◌++◌, length, length-append, Result, Ok, arith}
use Rattle.std.specs.List.{AllByRecursion}
use Rattle.units_core.proofs.OutcomeLemmas.{went_on, same_ok}
use Rattle.ship_profile.specs.declared.faults.ProfileFault.{ProfileFault}
use Rattle.ship_profile.specs.Outcome.{one_by_one}

module _ {A B : Type 0} (next : List B → A → Result B ProfileFault) where
  -- what holds of those that are done, and is kept by each further one of which Q holds, holds of all
  pub one_by_one-keeps : (P : List B → Type 0) (Q : A → Type 0) → ((done : List B) (x : A) (y : B) → P done → Q x → next done x ≡ Ok y → P (done ++ y ∷ []))
      → (done : List B) (xs : List A) (all : List B) → P done → AllByRecursion Q xs → one_by_one next done xs ≡ Ok all → P all
  one_by_one-keeps P Q keeps done [] all p q e = rw (← same_ok done all e) p
  one_by_one-keeps P Q keeps done (x ∷ xs) all p q e =
      let one = went_on (next done x) (λ y. one_by_one next (done ++ y ∷ []) xs) all e in
      one_by_one-keeps P Q keeps (done ++ one.0 ∷ []) xs all (keeps done x one.0 p q.0 one.1) q.1 one.2

  -- there are as many as were asked for
  pub one_by_one-length : (done : List B) (xs : List A) (all : List B) → one_by_one next done xs ≡ Ok all → length all ≡ length done + length xs
  one_by_one-length done [] all e = rw (← same_ok done all e) (omega arith)
  one_by_one-length done (x ∷ xs) all e =
      let one = went_on (next done x) (λ y. one_by_one next (done ++ y ∷ []) xs) all e in
      let len = length-append done (one.0 ∷ []) in
      let more = one_by_one-length (done ++ one.0 ∷ []) xs all one.2 in
      omega (arith, len, more)
