-- Numbers place by place.
use Rattle.std.proofs.Common.{◌≡◌, ℕ, zero, suc, ◌<◌, List, [], ◌∷◌, length, ℤ, ◌+ℤ◌, refl, sym, arith}
use Rattle.units_core.specs.Interpolation.{at}
use Rattle.moment_sums.specs.Kept.{added}
use Rattle.moment_sums.specs.KeptLaws.{nothing_plus, plus_nothing}

pub at_added : (xs ys : List ℤ) (i : ℕ) → at (added xs ys) i ≡ at xs i +ℤ at ys i
at_added [] ys i = sym (nothing_plus (at ys i))
at_added (x ∷ xs) [] i = sym (plus_nothing (at (x ∷ xs) i))
at_added (x ∷ xs) (y ∷ ys) zero = refl
at_added (x ∷ xs) (y ∷ ys) (suc i) = at_added xs ys i

-- lists of one length that agree at each place are one
pub same_places : (xs ys : List ℤ) → length xs ≡ length ys → ((i : ℕ) → i < length xs → at xs i ≡ at ys i) → xs ≡ ys
same_places [] [] n e = refl
same_places [] (y ∷ ys) n e = absurd (omega arith)
same_places (x ∷ xs) [] n e = absurd (omega arith)
same_places (x ∷ xs) (y ∷ ys) n e = λ j. e 0 (omega arith) j ∷ same_places xs ys (omega arith) (λ i h. e (suc i) (omega arith)) j
