-- A test of two texts that was answered right is the test of the definitions.
use Rattle.std.proofs.Common.{◌≡◌, ℕ, Bool, true, false, List, IsTrue, ◌↔◌, refl, sym}
use Rattle.std.specs.Str.{bytes_eq}
use Rattle.std.specs.Cmp.Lexicographic.{bytes_decides}

by_cases : (r b : Bool) (P : Type 0) → (b ≡ true → P) × (P → b ≡ true) → IsTrue r ↔ P → r ≡ b
by_cases true b P d h = sym (d.1 (h.0 refl))
by_cases false true P d h = h.1 (d.0 refl)
by_cases false false P d h = refl

pub told : (r : Bool) (xs ys : List ℕ) → IsTrue r ↔ (xs ≡ ys) → r ≡ bytes_eq xs ys
told r xs ys h = by_cases r (bytes_eq xs ys) (xs ≡ ys) (bytes_decides xs ys) h
