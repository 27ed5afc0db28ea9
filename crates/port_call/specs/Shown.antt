-- How a cell and a byte of a name are printed.
use Rattle.std.specs.Prelude.{ℕ, ◌-◌, List, ◌++◌, length, replicate, if◌then◌else◌}
use Rattle.std.specs.Char.{is_ascii_graphic}
use Rattle.std.specs.Fmt.{decimal}
use Rattle.units_core.specs.declared.cells.Cell.{Cell}

-- a number in `count` digits, with zeros (code 48) before it
abbrev pub in_digits : ℕ → ℕ → List ℕ
in_digits count n = replicate (count - length (decimal n)) 48 ++ decimal n

-- a cell in its seven digits
abbrev pub cell_text : Cell → List ℕ
cell_text cell = in_digits 3 cell.bay ++ (in_digits 2 cell.row ++ in_digits 2 cell.tier)

-- a byte as it can be printed: a question mark (code 63) for a blank, and for what is no visible
-- character
abbrev pub shown : ℕ → ℕ
shown byte = if is_ascii_graphic byte then byte else 63
