-- What an interchange of UN/EDIFACT holds (ISO 9735, its batch syntax): a segment is a list of
-- elements, an element a list of components, a component a literal, which is its bytes with the
-- release characters undone.
use Rattle.std.specs.Prelude.{ℕ, ◌+◌, List, [], ◌∷◌, slice_index_or}

abbrev pub Parts : Type 0
Parts = List (List (List ℕ))

-- Component j of element i, both from 0, and the empty literal where it isn't there. The tag is
-- component 0 of element 0.
unfoldable pub component : Parts → ℕ → ℕ → List ℕ
component parts i j = slice_index_or (slice_index_or parts i []) j []

-- A segment, and its number in the message: that of the message header is 1.
pub record Numbered : Type 0 where
  pub number : ℕ
  pub parts : Parts

-- A message: the interchange's decimal mark, and the segments between the message's header and its
-- trailer.
pub record Opened : Type 0 where
  pub mark : ℕ
  pub segments : List Numbered

-- Segments in a row, the first of which has this number.
abbrev pub numbered : ℕ → List Parts → List Numbered
numbered number [] = []
numbered number (parts ∷ more) =
    record { number = number; parts = parts } ∷ numbered (number + 1) more

-- A segment of the text: its parts, and how many bytes are before its first one.
pub record Placed : Type 0 where
  pub place : ℕ
  pub parts : Parts
