-- What is aboard: the container in each cell, and the mass in each tank; and what is aboard after
-- one step.
use Rattle.std.specs.Prelude.{ℕ, List, [], ◌∷◌, Option, None, Some, nat_eq}
use Rattle.std.specs.Map.{update}
use Rattle.indexmap.specs.IndexMap.{get}
use Rattle.units_core.specs.declared.cells.Cell.{Cell}
use Rattle.units_core.specs.Cells.{cell_eq}
use Rattle.stow_messages.specs.declared.items.Item.{Item}
use Rattle.stow_messages.specs.declared.lifts.Lift.TheVariants.{Load, Discharge}
use Rattle.ship_profile.specs.Record.{ProfileRecord, tank_of}
use Rattle.lift_sequence.specs.declared.containers.Container.{Container}
use Rattle.lift_sequence.specs.declared.operations.Op as operation
use Rattle.lift_sequence.specs.declared.operations.Op.TheVariants.{Lift, Fill, Restow}
use Rattle.lift_sequence.specs.declared.stowage.Stowage.{Stowage}

-- the container in each cell, and the kg in each tank, or nothing
pub record Aboard : Type 0 where
  pub cells : Cell → Option Container
  pub tanks : ℕ → Option ℕ

abbrev pub nothing : Aboard
nothing = record { cells = λ cell. None; tanks = λ tank. None }

-- what the code's tables hold
abbrev pub cargo_in : Stowage → Aboard
cargo_in s = record { cells = get cell_eq s.cells; tanks = get nat_eq s.tanks }

abbrev pub container_of : Item → Container
container_of item = record { id = item.id; kg = item.kg }

-- what is aboard with this container in a cell, or this mass in a tank
abbrev pub with_cell : Aboard → Cell → Option Container → Aboard
with_cell at cell container =
    record { cells = update cell_eq at.cells cell container; tanks = at.tanks }

abbrev pub with_tank : Aboard → Option ℕ → ℕ → Aboard
with_tank at None kg = at
with_tank at (Some tank) kg =
    record { cells = at.cells; tanks = update nat_eq at.tanks tank (Some kg) }

-- what is aboard with an item in its cell, and with the container of one cell in another
abbrev pub with_item : Aboard → Item → Aboard
with_item at item = with_cell at item.cell (Some (container_of item))

abbrev pub with_restow : Aboard → Cell → Cell → Aboard
with_restow at from to = with_cell (with_cell at from None) to (at.cells from)

-- What is aboard after a step: a load puts its container into its cell, a discharge empties its
-- cell, a fill sets the mass in its tank, and a restow moves the container of one cell to another.
abbrev pub after_step : ProfileRecord → Aboard → operation.Op → Aboard
after_step ship at (Lift (Load item)) = with_item at item
after_step ship at (Lift (Discharge cell id)) = with_cell at cell None
after_step ship at (Fill name kg) = with_tank at (tank_of ship name.items) kg
after_step ship at (Restow from to id) = with_restow at from to

-- what is aboard after some steps, one after another
abbrev pub after_all : ProfileRecord → Aboard → List operation.Op → Aboard
after_all ship at [] = at
after_all ship at (op ∷ more) = after_all ship (after_step ship at op) more
