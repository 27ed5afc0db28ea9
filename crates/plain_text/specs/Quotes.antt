-- Input in print, on one line: bytes that can't be seen as points, cut to a width.
use Rattle.std.specs.Prelude.{ℕ, List, [], ◌∷◌, ◌++◌, Option, Some, None, Bool, length, map, take}
use Rattle.std.specs.Prelude.{nat_le, ◌&&◌, codes, if◌then◌else◌}

-- a character of ASCII that can be seen, or a blank
abbrev pub is_seen : ℕ → Bool
is_seen byte = nat_le 32 byte && nat_le byte 126

abbrev pub seen : ℕ → ℕ
seen byte = if is_seen byte then byte else 46

-- the columns that quoted input takes at most
abbrev pub most_quoted : ℕ
most_quoted = 58

abbrev pub with_end : List ℕ → Option ℕ → List ℕ
with_end bytes None = bytes
with_end bytes (Some end) = bytes ++ end ∷ []

-- bytes as they are quoted: what is longer is cut, and ends with two points
abbrev pub quoted_text : List ℕ → List ℕ
quoted_text bytes =
    if nat_le (length bytes) most_quoted then map seen bytes
    else map seen (take 56 bytes) ++ codes ".."
