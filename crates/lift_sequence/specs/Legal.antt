-- Which steps can be done with what is aboard, and why a step can't.
use Rattle.std.specs.Prelude.{◌≡◌, ◌≢◌, ℕ, List, [], ◌∷◌, Option, None, Some, option_map, Bool}
use Rattle.std.specs.Prelude.{true, false, not, ◌&&◌, if◌then◌else◌, find}
use Rattle.std.specs.List.{range_with_len}
use Rattle.std.specs.Option.{is_some, is_none, option_or}
use Rattle.std.specs.Str.{bytes_eq}
use Rattle.units_core.specs.declared.bodies.Place.{Place}
use Rattle.units_core.specs.declared.cells.Cell.{Cell}
use Rattle.units_core.specs.Bodies.{Mass}
use Rattle.units_core.specs.Cells.{meet}
use Rattle.stow_messages.specs.declared.lifts.Lift.TheVariants.{Load, Discharge}
use Rattle.ship_profile.specs.Record.{ProfileRecord, place_of, tank_of, tank_body}
use Rattle.lift_sequence.specs.declared.containers.Container.{Container}
use Rattle.lift_sequence.specs.declared.faults.SeqCode.{SeqCode}
use Rattle.lift_sequence.specs.declared.faults.SeqCode.TheVariants.{UnknownCell, CellTaken, Overlap}
use Rattle.lift_sequence.specs.declared.faults.SeqCode.TheVariants.{CellEmpty, WrongContainer}
use Rattle.lift_sequence.specs.declared.faults.SeqCode.TheVariants.{TankOver, NoMemory, UnknownTank}
use Rattle.lift_sequence.specs.declared.operations.Op as operation
use Rattle.lift_sequence.specs.declared.operations.Op.TheVariants.{Lift, Fill, Restow}
use Rattle.lift_sequence.specs.Aboard.{Aboard, with_cell}

-- the cell of another bay, of the same row and tier
abbrev pub in_bay : Cell → ℕ → Cell
in_bay cell bay = record { bay = bay; row = cell.row; tier = cell.tier }

-- the cell of another bay is occupied, and overlaps this one
abbrev pub is_rival : (Cell → Option Container) → Cell → ℕ → Bool
is_rival cells cell bay = is_some (cells (in_bay cell bay)) && meet bay cell.bay

-- The occupied cell that overlaps this one, and of several the one of least bay. Bays have three
-- digits.
unfoldable pub overlap : (Cell → Option Container) → Cell → Option Cell
overlap cells cell = option_map (in_bay cell) (find (is_rival cells cell) (range_with_len 0 1000))

-- why a container can't be put into a cell: the ship hasn't the cell, it is occupied, or an
-- occupied cell overlaps it
abbrev pub place_fault : Option Place → Bool → Option Cell → Option SeqCode
place_fault None taken rival = Some UnknownCell
place_fault (Some place) true rival = Some CellTaken
place_fault (Some place) false rival = option_map Overlap rival

abbrev pub stand_fault : ProfileRecord → Aboard → Cell → Option SeqCode
stand_fault ship at cell =
    place_fault (place_of ship cell) (is_some (at.cells cell)) (overlap at.cells cell)

-- two identifications that differ; an empty one fits any
abbrev pub is_empty : List ℕ → Bool
is_empty [] = true
is_empty (b ∷ bs) = false

abbrev pub differ : List ℕ → List ℕ → Bool
differ a b = not (is_empty a) && (not (is_empty b) && not (bytes_eq a b))

-- why the container of this identification can't be taken out of a cell: the ship hasn't the cell,
-- it is empty, or another container is there
abbrev pub hold_fault : List ℕ → Option Container → Option SeqCode
hold_fault id None = Some CellEmpty
hold_fault id (Some container) = if differ id container.id.items then Some WrongContainer else None

abbrev pub take_fault : ProfileRecord → Aboard → Cell → List ℕ → Option SeqCode
take_fault ship at cell id =
    if is_none (place_of ship cell) then Some UnknownCell else hold_fault id (at.cells cell)

-- why a tank can't hold a mass: its table hasn't that mass, or the ship hasn't the tank
abbrev pub over_fault : Option Mass → Option SeqCode
over_fault None = Some TankOver
over_fault (Some body) = None

abbrev pub fill_fault : ProfileRecord → Option ℕ → ℕ → Option SeqCode
fill_fault ship None kg = Some UnknownTank
fill_fault ship (Some tank) kg = over_fault (tank_body ship tank kg)

-- Why a container can't be taken from one cell to another. It is taken out first, so the cell that
-- it leaves is no rival of the cell that it goes to.
abbrev pub restow_fault : ProfileRecord → Aboard → Cell → Cell → List ℕ → Option SeqCode
restow_fault ship at from to id =
    option_or (take_fault ship at from id) (stand_fault ship (with_cell at from None) to)

-- why a step can't be done
abbrev pub fault_of : ProfileRecord → Aboard → operation.Op → Option SeqCode
fault_of ship at (Lift (Load item)) = stand_fault ship at item.cell
fault_of ship at (Lift (Discharge cell id)) = take_fault ship at cell id.items
fault_of ship at (Fill name kg) = fill_fault ship (tank_of ship name.items) kg
fault_of ship at (Restow from to id) = restow_fault ship at from to id.items

-- a refusal gives the fault that is defined, or is out of memory
abbrev pub Tells : Option SeqCode → SeqCode → Type 0
Tells fault code = code ≢ NoMemory → fault ≡ Some code
