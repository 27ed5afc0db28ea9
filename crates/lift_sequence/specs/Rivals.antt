-- Which occupied cells overlap a cell.
use Rattle.std.specs.Prelude.{◌≡◌, ◌<◌, ◌≤◌, Option, true}
use Rattle.std.specs.Option.{is_some}
use Rattle.units_core.specs.declared.cells.Cell.{Cell}
use Rattle.units_core.specs.Cells.{Conflicts}
use Rattle.lift_sequence.specs.declared.containers.Container.{Container}

-- an occupied cell that overlaps a cell
pub record IsRival (cells : Cell → Option Container) (cell rival : Cell) : Type 0 where
  pub taken : is_some (cells rival) ≡ true
  pub conflicts : Conflicts rival cell

-- no occupied cell overlaps the cell
abbrev pub HasNoRival : (Cell → Option Container) → Cell → Type 0
HasNoRival cells cell = (rival : Cell) → IsRival cells cell rival → ⊥

-- this occupied cell overlaps the cell, and none of a lesser bay does
pub record IsLeastRival (cells : Cell → Option Container) (cell rival : Cell) : Type 0 where
  pub is : IsRival cells cell rival
  pub least : (other : Cell) → IsRival cells cell other → rival.bay ≤ other.bay

-- the bay of each occupied cell has three digits
abbrev pub HaveShortBays : (Cell → Option Container) → Type 0
HaveShortBays cells = (cell : Cell) → is_some (cells cell) ≡ true → cell.bay < 1000
