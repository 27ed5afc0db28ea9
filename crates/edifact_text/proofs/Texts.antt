use Rattle.std.proofs.Common.{◌≡◌, ℕ, List, Bool, true, false, IsTrue, ◌↔◌, sym, refl, ◌∷◌, nat_eq, codes, ◌≢◌, rules}
use lib.Pointwise.{bytes_decides}
use Rattle.edifact_text.specs.Rows.{is_text, is_one}

by_cases : (r b : Bool) (P : Type 0) → (b ≡ true → P) × (P → b ≡ true) → IsTrue r ↔ P → r ≡ b
by_cases true b P d h = sym (d.1 (h.0 refl))
by_cases false true P d h = h.1 (d.0 refl)
by_cases false false P d h = refl

pub told : (r : Bool) (xs ys : List ℕ) → IsTrue r ↔ (xs ≡ ys) → r ≡ is_text xs ys
unfolding is_text
told r xs ys h = by_cases r (is_text xs ys) (xs ≡ ys) (bytes_decides xs ys) h

pub one_ends : (b : ℕ) (bs xs : List ℕ) → xs ≡ b ∷ bs → b ≢ 48 → is_one xs ≡ is_text xs (codes "1")
one_ends b bs xs e h =
    let f : nat_eq b 48 ≡ false = search rules in
    rw (e, f) refl
