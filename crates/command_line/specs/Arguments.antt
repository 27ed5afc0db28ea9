-- A word of the command line, as text.
use Rattle.std.specs.Prelude.{◌≡◌, ℕ, List, map, if◌then◌else◌}
use Rattle.std.specs.Char.{is_ascii}
use Rattle.std.specs.Str.{IsUtf8}

-- A byte of a word that isn't UTF-8. NUL is in no name of a file, so the word names none.
abbrev pub masked : ℕ → ℕ
masked byte = if is_ascii byte then byte else 0

-- a word is its bytes, where these are UTF-8
pub record IsWordOf (bytes text : List ℕ) : Type 0 where
  pub read : IsUtf8 bytes → text ≡ bytes
  pub masked_bytes : (IsUtf8 bytes → ⊥) → text ≡ map masked bytes
