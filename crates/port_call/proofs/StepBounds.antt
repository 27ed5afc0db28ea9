-- No step makes a container heavier.
use Rattle.std.proofs.Common.{ℕ, zero, suc, ◌^◌, ◌≤◌, Bool, true, false, List, [], ◌∷◌, Option, None, Some, take}
use Rattle.std.specs.Prelude.{IfSome, if◌then◌else◌}
use Rattle.std.specs.List.{AllByRecursion}
use Rattle.units_core.specs.declared.cells.Cell.{Cell}
use Rattle.units_core.specs.Cells.{cell_eq}
use Rattle.stow_messages.specs.declared.items.Item.{Item}
use Rattle.stow_messages.specs.declared.lifts.Lift.TheVariants.{Load, Discharge}
use Rattle.ship_profile.specs.declared.fills.TankFill.{TankFill}
use Rattle.ship_profile.specs.Record.{ProfileRecord, tank_of}
use Rattle.lift_sequence.specs.declared.containers.Container.{Container}
use Rattle.lift_sequence.specs.declared.operations.Op as operation
use Rattle.lift_sequence.specs.declared.operations.Op.TheVariants.{Lift, Fill, Restow}
use Rattle.lift_sequence.specs.Aboard.{Aboard, after_all, after_step, nothing, with_cell, with_tank}
use Rattle.lift_sequence.specs.Arrival.{AreLight, on_arrival, with_fills, with_items}
use Rattle.lift_sequence.specs.Sequence.{IsLight}
use Rattle.port_call.specs.Laws.{IsLightCargo, SequencesAreBounded}
use Rattle.port_call.proofs.AboardBounds.{bounded}

light_cell : (at : Aboard) (cell : Cell) (o : Option Container) → IsLightCargo at → IfSome o (λ k. k.kg ≤ 10 ^ 9) → IsLightCargo (with_cell at cell o)
light_cell at cell o l h = λ other. by other (cell_eq cell other) where
  by : (other : Cell) (b : Bool) → IfSome (if b then o else at.cells other) (λ k. k.kg ≤ 10 ^ 9)
  by other true = h
  by other false = l other

light_tank : (at : Aboard) (o : Option ℕ) (kg : ℕ) → IsLightCargo at → IsLightCargo (with_tank at o kg)
light_tank at None kg l = l
light_tank at (Some tank) kg l = l

light_moved : (ship : ProfileRecord) (at : Aboard) (op : operation.Op) → IsLightCargo at → IsLight op → IsLightCargo (after_step ship at op)
light_moved ship at (Lift (Load item)) l h = light_cell at item.cell (Some (record { id = item.id; kg = item.kg })) l h
light_moved ship at (Lift (Discharge cell id)) l h = light_cell at cell None l tt
light_moved ship at (Fill name kg) l h = light_tank at (tank_of ship name.items) kg l
light_moved ship at (Restow from to id) l h = light_cell (with_cell at from None) to (at.cells from) (light_cell at from None l tt) (l from)

light_after : (ship : ProfileRecord) (at : Aboard) (ops : List operation.Op) (k : ℕ) → IsLightCargo at → AllByRecursion IsLight ops → IsLightCargo (after_all ship at (take k ops))
light_after ship at [] zero l h = l
light_after ship at [] (suc k) l h = l
light_after ship at (op ∷ more) zero l h = l
light_after ship at (op ∷ more) (suc k) l h = light_after ship (after_step ship at op) more k (light_moved ship at op l h.0) h.1

light_items : (at : Aboard) (items : List Item) → IsLightCargo at → AreLight items → IsLightCargo (with_items at items)
light_items at [] l h = l
light_items at (item ∷ more) l h = light_items (with_cell at item.cell (Some (record { id = item.id; kg = item.kg }))) more (light_cell at item.cell (Some (record { id = item.id; kg = item.kg })) l h.0) h.1

light_fills : (at : Aboard) (fills : List TankFill) → IsLightCargo at → IsLightCargo (with_fills at fills)
light_fills at [] l = l
light_fills at (fill ∷ more) l = light_fills (with_tank at (Some fill.tank) fill.kg) more (light_tank at (Some fill.tank) fill.kg l)

pub all_steps : SequencesAreBounded
all_steps = λ ship items fills ops k sound hi ho.
    bounded ship (after_all ship (on_arrival items fills) (take k ops)) sound
    (light_after ship (on_arrival items fills) ops k (light_fills (with_items nothing items) fills (light_items nothing items (λ cell. tt) hi)) ho)
