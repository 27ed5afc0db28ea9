-- The front of a text, and what is held behind a mark.
use Rattle.std.specs.Prelude.{◌≡◌, ℕ, ◌<◌, List, ◌∷◌, length, take, Option, option_map}

-- the front of a text, and not the whole
abbrev pub IsFrontOf : List ℕ → List ℕ → Type 0
IsFrontOf whole text = (m : ℕ) × (m < length whole) × (text ≡ take m whole)

-- what is known to be held, behind a mark
abbrev pub marked : ℕ → Option (List ℕ) → Option (List ℕ)
marked mark held = option_map (λ bytes. mark ∷ bytes) held
