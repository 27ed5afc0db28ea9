-- How separators cut bytes into pieces, and what the bytes of a piece mean: both go through them
-- with one flag, that the byte before was a release character.
use Rattle.std.specs.Prelude.{ℕ, List, [], ◌∷◌, Option, Some, None, Bool, true, false, nat_eq, not}
use Rattle.std.specs.Prelude.{◌&&◌, if◌then◌else◌, option_map, ◌+◌}
use Rattle.edifact_text.specs.Characters.{is_release}

-- The byte releases the next one. One that is released itself (held) doesn't.
abbrev pub releases : Option ℕ → Bool → ℕ → Bool
releases release true byte = false
releases release false byte = is_release release byte

-- The byte cuts: it is the separator and isn't released. The release character itself never cuts.
abbrev pub separates : Option ℕ → ℕ → Bool → ℕ → Bool
separates release separator true byte = false
separates release separator false byte = not (is_release release byte) && nat_eq byte separator

-- The pieces of one byte more, which belongs to the first of them.
abbrev pub with_byte : ℕ → List (List ℕ) → List (List ℕ)
with_byte byte [] = (byte ∷ []) ∷ []
with_byte byte (piece ∷ pieces) = (byte ∷ piece) ∷ pieces

-- The pieces. There is always one, and it may be empty.
abbrev pub pieces_from : Option ℕ → ℕ → Bool → List ℕ → List (List ℕ)
pieces_from release separator held [] = [] ∷ []
pieces_from release separator held (byte ∷ bytes) =
    if separates release separator held byte
    then [] ∷ pieces_from release separator false bytes
    else with_byte byte (pieces_from release separator (releases release held byte) bytes)

abbrev pub pieces : Option ℕ → ℕ → List ℕ → List (List ℕ)
pieces release separator bytes = pieces_from release separator false bytes

-- The index of the first byte that cuts.
abbrev pub end_from : Option ℕ → ℕ → Bool → List ℕ → Option ℕ
end_from release separator held [] = None
end_from release separator held (byte ∷ bytes) =
    if separates release separator held byte
    then Some 0
    else option_map (λ n. n + 1) (end_from release separator (releases release held byte) bytes)

-- What bytes mean: each of them but the release characters that release.
abbrev pub literal_from : Option ℕ → Bool → List ℕ → List ℕ
literal_from release held [] = []
literal_from release held (byte ∷ bytes) =
    if releases release held byte
    then literal_from release true bytes
    else byte ∷ literal_from release false bytes

abbrev pub literal : Option ℕ → List ℕ → List ℕ
literal release bytes = literal_from release false bytes
