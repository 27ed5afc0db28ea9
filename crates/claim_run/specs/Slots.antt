-- Bookkeeping: slots for the values of numbered pieces.
use Rattle.std.specs.Prelude.{◌≡◌, ℕ, zero, suc, List, [], ◌∷◌, Bool, true, false, Option, Some}
use Rattle.std.specs.Prelude.{None}

abbrev pub Holds : {X : Type 0} → (ℕ → X) → ℕ → Option X → Type 0
Holds value k None = Unit {0}
Holds value k (Some x) = x ≡ value k

-- what is in a slot is its number's value, where the first slot is numbered k
abbrev pub RightFrom : {X : Type 0} → (ℕ → X) → ℕ → List (Option X) → Type 0
RightFrom value k [] = Unit {0}
RightFrom value k (o ∷ os) = Holds value k o × RightFrom value (suc k) os

abbrev pub IsRight : {X : Type 0} → (ℕ → X) → List (Option X) → Type 0
IsRight value os = RightFrom value 0 os

abbrev pub is_filled : {X : Type 0} → Option X → Bool
is_filled None = false
is_filled (Some x) = true

-- the slot is filled
abbrev pub is_there : {X : Type 0} → List (Option X) → ℕ → Bool
is_there [] k = false
is_there (o ∷ os) zero = is_filled o
is_there (o ∷ os) (suc k) = is_there os k
