-- The line on which a record of a table stands.
use Rattle.std.specs.Prelude.{◌≡◌, ℕ, ◌-◌, List, [], ◌∷◌, Some, slice_get}
use Rattle.csv_text.specs.Reading.{Fields, records_of}

-- the line holds the record of this number of a text, the first being 1, and no other
abbrev pub IsLineOf : List ℕ → ℕ → List ℕ → Type 0
IsLineOf text number line =
    (fields : Fields) × (slice_get (records_of text) (number - 1) ≡ Some fields)
    × (records_of line ≡ fields ∷ [])
