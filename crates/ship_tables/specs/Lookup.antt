-- Bookkeeping: the index of a cell in a list, by two tables.
use Rattle.std.specs.Prelude.{◌≡◌, ℕ, ◌+◌, ◌*◌, ◌<◌, List, length, get_or, slice_index}
use Rattle.units_core.specs.declared.cells.Cell.{Cell}

-- the entry of the cell's tier in the block of its bay and row
abbrev pub index_in : List ℕ → List ℕ → Cell → ℕ
index_in blocks entries cell =
    slice_index entries (slice_index blocks (cell.bay * 100 + cell.row) * 100 + cell.tier)

-- the tables give each cell of the list its index
abbrev pub AllTold : List ℕ → List ℕ → List Cell → Type 0
AllTold blocks entries cells = (i : ℕ) (d : Cell) → i < length cells
    → index_in blocks entries (get_or cells i d) ≡ i

-- some tables give each cell of the list its index, so that no two of them are equal
abbrev pub AreApart : List Cell → Type 0
AreApart cells = (blocks entries : List ℕ) × AllTold blocks entries cells
