-- Everything aboard has its place in the ship; and how many bodies there are.
use Rattle.std.specs.Prelude.{◌≡◌, ◌≤◌, ℕ, List, length, Some, true}
use Rattle.std.specs.List.{filter, range_with_len}
use Rattle.std.specs.Map.{keys_of}
use Rattle.std.specs.Option.{is_some}
use Rattle.units_core.specs.declared.cells.Cell.{Cell}
use Rattle.stow_messages.specs.declared.lifts.Lift as lift
use Rattle.stow_messages.specs.declared.step_rows.StepRow.{StepRow}
use Rattle.stow_messages.specs.declared.step_rows.StepRow.TheVariants as row
use Rattle.ship_profile.specs.Record.{ProfileRecord, place_of, tank_body}
use Rattle.lift_sequence.specs.Aboard.{Aboard}

-- each occupied cell is one of the ship's, and each filled tank is one of hers, whose table has the
-- mass that it holds
pub record HasPlaces (ship : ProfileRecord) (at : Aboard) : Type 0 where
  pub cells : (cell : Cell) → is_some (at.cells cell) ≡ true → is_some (place_of ship cell) ≡ true
  pub tanks : (tank kg : ℕ) → at.tanks tank ≡ Some kg → is_some (tank_body ship tank kg) ≡ true

-- her occupied cells, and the numbers of her filled tanks
abbrev pub taken_cells : ProfileRecord → Aboard → List Cell
taken_cells ship at = filter (λ cell. is_some (at.cells cell)) (keys_of ship.tables.cells)

abbrev pub filled_tanks : ProfileRecord → Aboard → List ℕ
filled_tanks ship at =
    filter (λ tank. is_some (at.tanks tank)) (range_with_len 0 (length ship.tables.tanks))

-- a row of a lift has the number of one, the first being 1
abbrev pub HasLift : List lift.Lift → StepRow → Type 0
HasLift lifts (row.Lift n) = (1 ≤ n) × (n ≤ length lifts)
HasLift lifts other = Unit {0}
