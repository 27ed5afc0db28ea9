-- The lines of a text and the words of a line, and what a word says: a number, an identification, a
-- name.
use Rattle.std.specs.Prelude.{ℕ, List, [], ◌∷◌, ◌==◌, if◌then◌else◌, nat_le, codes}
use Rattle.std.specs.Prelude.{Option, Some, None}
use Rattle.std.specs.List.{slice_split, onto_first}
use Rattle.std.specs.Str.{bytes_eq}
use Rattle.arrayvec.specs.ArrayVec.{ArrayVec}
use Rattle.csv_text.specs.Numbers.{natural_in}
use Rattle.stow_messages.specs.Steps.{text_of}

-- The lines of a text: each ends with LF (code 10), and the last may also end with the text.
abbrev pub lines_in : List ℕ → List (List ℕ)
lines_in [] = []
lines_in (c ∷ cs) = if c == 10 then [] ∷ lines_in cs else onto_first c (lines_in cs)

-- the words of a line: one space (code 32) is between two of them
abbrev pub words_in : List ℕ → List (List ℕ)
words_in line = slice_split (λ c. c == 32) line

-- the number of a word, where it isn't above the greatest
abbrev pub up_to : ℕ → Option ℕ → Option ℕ
up_to most None = None
up_to most (Some n) = if nat_le n most then Some n else None

-- 1 to 10 digits
abbrev pub number_in : ℕ → List ℕ → Option ℕ
number_in most word = up_to most (natural_in 10 word)

-- the number of a step, or the mass of a tank's filling in kg; and the gross mass of a container in
-- kg
abbrev pub step_in : List ℕ → Option ℕ
step_in word = number_in 1000000000 word

abbrev pub mass_in : List ℕ → Option ℕ
mass_in word = number_in 999999 word

-- an identification, 1 to 17 bytes; a hyphen alone is the empty one
abbrev pub id_in : List ℕ → Option (ArrayVec ℕ)
id_in word = if bytes_eq word (codes "-") then Some (record { items = [] }) else text_of 1 17 word

-- the name of a tank, 1 to 16 bytes
abbrev pub name_in : List ℕ → Option (ArrayVec ℕ)
name_in word = text_of 1 16 word
