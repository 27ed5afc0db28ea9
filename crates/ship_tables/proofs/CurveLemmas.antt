-- Curves by their numbers.
use Rattle.std.proofs.Common.{◌≡◌, ℕ, zero, suc, ◌*◌, ◌^◌, ◌≤◌, ℤ, List, [], ◌∷◌, slice_get, None, refl, arith, unsigned_abs}
use Rattle.std.specs.Prelude.{slice_index_or}
use Rattle.std.proofs.Math.Nat.{mul-le-mul_left}

-- no column where there is none
pub none_there : (xs : List (List ℤ)) (k : ℕ) → slice_get xs k ≡ None → [] ≡ slice_index_or xs k []
none_there [] zero h = refl
none_there [] (suc k) h = refl
none_there (x ∷ xs) zero h = absurd cc
none_there (x ∷ xs) (suc k) h = none_there xs k h

-- a reading's size
pub reading_within : (r g : ℤ) (m : ℕ) → unsigned_abs r ≤ m * unsigned_abs g → unsigned_abs g ≤ 10 ^ 8 → unsigned_abs r ≤ m * 10 ^ 8
reading_within r g m h k = grind (arith, mul-le-mul_left m k)
