-- The bodies aboard: the parts of the light ship, the filling of each tank, and the container in
-- each of the ship's cells; and those that a step takes out and puts in.
use Rattle.std.specs.Prelude.{ℕ, pos, List, [], ◌∷◌, ◌++◌, length, flat_map, Option, None, Some}
use Rattle.std.specs.Prelude.{option_map}
use Rattle.std.specs.List.{range_with_len}
use Rattle.std.specs.Option.{option_to_list}
use Rattle.units_core.specs.declared.bodies.Place.{Place}
use Rattle.units_core.specs.declared.cells.Cell.{Cell}
use Rattle.units_core.specs.Bodies.{Mass}
use Rattle.stow_messages.specs.declared.items.Item.{Item}
use Rattle.stow_messages.specs.declared.lifts.Lift.TheVariants.{Load, Discharge}
use Rattle.ship_profile.specs.declared.fills.TankFill.{TankFill}
use Rattle.ship_profile.specs.Record.{ProfileRecord, place_of, tank_of, tank_body}
use Rattle.lift_sequence.specs.declared.containers.Container.{Container}
use Rattle.lift_sequence.specs.declared.operations.Op as operation
use Rattle.lift_sequence.specs.declared.operations.Op.TheVariants.{Lift, Fill, Restow}
use Rattle.units_core.specs.declared.steps.Step.{Step}
use Rattle.lift_sequence.specs.Aboard.{Aboard, after_step, container_of}

-- a container at its cell's place; it has no free surface
abbrev pub body_of : Place → Container → Mass
body_of place container = record { kg = container.kg; place = place; fsm = pos 0 }

-- the container at a place, if there is one
abbrev pub body_in : Option Place → Option Container → Option Mass
body_in None container = None
body_in (Some place) container = option_map (body_of place) container

-- an item in its cell
abbrev pub item_body : ProfileRecord → Item → Option Mass
item_body ship item = body_in (place_of ship item.cell) (Some (container_of item))

-- a fill in its tank
abbrev pub fill_body : ProfileRecord → TankFill → Option Mass
fill_body ship fill = tank_body ship fill.tank fill.kg

-- the container in a cell
abbrev pub cell_body : ProfileRecord → Aboard → Cell → Option Mass
cell_body ship at cell = body_in (place_of ship cell) (at.cells cell)

-- what a tank holds, if it is filled
abbrev pub filling_in : ProfileRecord → ℕ → Option ℕ → Option Mass
filling_in ship tank None = None
filling_in ship tank (Some kg) = tank_body ship tank kg

abbrev pub bodies_in_tanks : ProfileRecord → (ℕ → Option ℕ) → List Mass
bodies_in_tanks ship tanks =
    flat_map (λ tank. option_to_list (filling_in ship tank (tanks tank)))
    (range_with_len 0 (length ship.tables.tanks))

abbrev pub bodies_in_cells : ProfileRecord → (Cell → Option Container) → List Mass
bodies_in_cells ship cells =
    flat_map
    (λ (e : Cell × Place). option_to_list (body_in (Some e.1) (cells e.0))) ship.tables.cells

abbrev pub bodies : ProfileRecord → Aboard → List Mass
bodies ship at =
    ship.ship.blocks ++ (bodies_in_tanks ship at.tanks ++ bodies_in_cells ship at.cells)

-- what a step takes out, and what it puts in
abbrev pub filling_step : ProfileRecord → Aboard → Option ℕ → ℕ → Step
filling_step ship at None kg = record { out = None; put = None }
filling_step ship at (Some tank) kg =
    record { out = filling_in ship tank (at.tanks tank); put = tank_body ship tank kg }

abbrev pub restow_step : ProfileRecord → Aboard → Cell → Cell → Step
restow_step ship at from to =
    record { out = cell_body ship at from; put = body_in (place_of ship to) (at.cells from) }

abbrev pub step_of : ProfileRecord → Aboard → operation.Op → Step
step_of ship at (Lift (Load item)) = record { out = None; put = item_body ship item }
step_of ship at (Lift (Discharge cell id)) = record { out = cell_body ship at cell; put = None }
step_of ship at (Fill name kg) = filling_step ship at (tank_of ship name.items) kg
step_of ship at (Restow from to id) = restow_step ship at from to

abbrev pub steps_of : ProfileRecord → Aboard → List operation.Op → List Step
steps_of ship at [] = []
steps_of ship at (op ∷ more) = step_of ship at op ∷ steps_of ship (after_step ship at op) more
