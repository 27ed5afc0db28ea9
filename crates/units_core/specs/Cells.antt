-- The numbers of cells: bay, row and tier (ISO 9711-1), written in seven digits, three, two and
-- two.
use Rattle.std.specs.Prelude.{◌≡◌, ℕ, ◌+◌, ◌-◌, ◌*◌, ◌%◌, Bool, true, nat_eq, nat_le, ◌&&◌}
use Rattle.std.specs.Prelude.{if◌then◌else◌, List, [], ◌∷◌, Option, Some, None}
use Rattle.std.specs.Char.{is_ascii_digit}
use Rattle.units_core.specs.declared.cells.Cell.{Cell}

-- two numbers of a cell are one number
abbrev pub cell_eq : Cell → Cell → Bool
cell_eq a b = nat_eq a.bay b.bay && (nat_eq a.row b.row && nat_eq a.tier b.tier)

-- the value of a digit
abbrev pub digit : ℕ → ℕ
digit byte = byte - 48

-- the number that two bytes write, where both are digits
abbrev pub two_in : ℕ → ℕ → Option ℕ
two_in a b = if is_ascii_digit a && is_ascii_digit b then Some (10 * digit a + digit b) else None

-- the number that three bytes write, where all are digits
abbrev pub three_in : ℕ → ℕ → ℕ → Option ℕ
three_in a b c =
    if is_ascii_digit a
    && (is_ascii_digit b && is_ascii_digit c) then Some (100 * digit a + (10 * digit b + digit c))
    else None

-- the cell of bay, row and tier, where all three are there
abbrev pub cell_of : Option ℕ → Option ℕ → Option ℕ → Option Cell
cell_of (Some bay) (Some row) (Some tier) = Some (record { bay = bay; row = row; tier = tier })
cell_of bay row tier = None

-- the cell that a text of six or seven digits names, six being read with a 0 (code 48) before them
abbrev pub cell_in : List ℕ → Option Cell
cell_in (b1 ∷ b2 ∷ b3 ∷ r1 ∷ r2 ∷ t1 ∷ t2 ∷ []) =
    cell_of (three_in b1 b2 b3) (two_in r1 r2) (two_in t1 t2)
cell_in (b2 ∷ b3 ∷ r1 ∷ r2 ∷ t1 ∷ t2 ∷ []) =
    cell_of (three_in 48 b2 b3) (two_in r1 r2) (two_in t1 t2)
cell_in text = None

-- The 20-foot bays that a cell covers: an odd bay is one itself, and an even bay covers its two odd
-- neighbours. Bay 0 has no bay before it.
abbrev pub span_of : ℕ → ℕ × ℕ
span_of bay = if nat_eq (bay % 2) 1 then (bay, bay) else (bay - 1, bay + 1)

-- two bays have a 20-foot bay in common
abbrev pub meet : ℕ → ℕ → Bool
meet a b = nat_le (span_of a).0 (span_of b).1 && nat_le (span_of b).0 (span_of a).1

-- two cells overlap: row and tier are equal, and they have a 20-foot bay in common
pub record Conflicts (a b : Cell) : Type 0 where
  pub row : a.row ≡ b.row
  pub tier : a.tier ≡ b.tier
  pub bays : meet a.bay b.bay ≡ true
