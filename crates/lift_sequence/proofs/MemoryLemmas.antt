-- By the definitions no step and no sequence is refused as out of memory.
use Rattle.std.proofs.Common.{◌≡◌, ◌≢◌, ℕ, ◌+◌, List, [], ◌∷◌, length, Option, None, Some, Bool, true, false, nat_lt, ap, ◌∙◌}
use Rattle.std.specs.Prelude.{⊤, if◌then◌else◌}
use Rattle.std.specs.Option.{is_none, option_map, option_or}
use Rattle.std.proofs.lemmas.Option.{none-some, same_Some}
use Rattle.units_core.specs.declared.bodies.Place.{Place}
use Rattle.units_core.specs.declared.cells.Cell.{Cell}
use Rattle.units_core.specs.Bodies.{Mass}
use Rattle.stow_messages.specs.declared.lifts.Lift.TheVariants.{Load, Discharge}
use Rattle.ship_profile.specs.Record.{ProfileRecord, place_of, tank_body, tank_of}
use Rattle.lift_sequence.specs.declared.containers.Container.{Container}
use Rattle.lift_sequence.specs.declared.faults.SeqCode.{SeqCode}
use Rattle.lift_sequence.specs.declared.faults.SeqCode.TheVariants.{NoMemory, TooManySteps, UnknownCell, WrongContainer}
use Rattle.lift_sequence.specs.declared.faults.SeqFault.{SeqFault}
use Rattle.lift_sequence.specs.declared.operations.Op as operation
use Rattle.lift_sequence.specs.declared.operations.Op.TheVariants.{Lift, Fill, Restow}
use Rattle.lift_sequence.specs.Aboard.{Aboard, after_step, with_cell}
use Rattle.lift_sequence.specs.Arrival.{fault_at}
use Rattle.lift_sequence.specs.Legal.{differ, fault_of, fill_fault, hold_fault, overlap, over_fault, place_fault, stand_fault, take_fault}
use Rattle.lift_sequence.specs.Sequence.{first_fault, sequence_fault}

-- a fault, if there is one, of another cause
abbrev IsAnother : Option SeqCode → Type 0
IsAnother None = ⊤
IsAnother (Some code) = code ≢ NoMemory

many_another : TooManySteps ≢ NoMemory
many_another e = cc

place_another : (o : Option Place) (taken : Bool) (rival : Option Cell) → IsAnother (place_fault o taken rival)
place_another None taken rival = λ e. cc
place_another (Some p) true rival = λ e. cc
place_another (Some p) false None = tt
place_another (Some p) false (Some cell) = λ e. cc

hold_another : (id : List ℕ) (o : Option Container) → IsAnother (hold_fault id o)
hold_another id None = λ e. cc
hold_another id (Some box) = by_test (differ id box.id.items) where
  by_test : (b : Bool) → IsAnother (if b then Some WrongContainer else None)
  by_test true = λ e. cc
  by_test false = tt

over_another : (o : Option Mass) → IsAnother (over_fault o)
over_another None = λ e. cc
over_another (Some body) = tt

either_another : (a b : Option SeqCode) → IsAnother a → IsAnother b → IsAnother (option_or a b)
either_another None b h k = k
either_another (Some code) b h k = h

module _ (ship : ProfileRecord) where
  stand_another : (at : Aboard) (cell : Cell) → IsAnother (stand_fault ship at cell)
  stand_another at cell = place_another (place_of ship cell) _ (overlap at.cells cell)

  take_another : (at : Aboard) (cell : Cell) (id : List ℕ) → IsAnother (take_fault ship at cell id)
  take_another at cell id = by_test (is_none (place_of ship cell)) where
    by_test : (b : Bool) → IsAnother (if b then Some UnknownCell else hold_fault id (at.cells cell))
    by_test true = λ e. cc
    by_test false = hold_another id (at.cells cell)

  fill_another : (o : Option ℕ) (kg : ℕ) → IsAnother (fill_fault ship o kg)
  fill_another None kg = λ e. cc
  fill_another (Some tank) kg = over_another (tank_body ship tank kg)

  step_another : (at : Aboard) (op : operation.Op) → IsAnother (fault_of ship at op)
  step_another at (Lift (Load item)) = stand_another at item.cell
  step_another at (Lift (Discharge cell id)) = take_another at cell id.items
  step_another at (Fill name kg) = fill_another (tank_of ship name.items) kg
  step_another at (Restow from to id) =
      either_another (take_fault ship at from id.items) (stand_fault ship (with_cell at from None) to) (take_another at from id.items) (stand_another (with_cell at from None) to)

  -- a list's first fault, where that of its first step and that of the others are of another cause
  one_of_two : (number : ℕ) (o : Option SeqCode) (more : Option SeqFault) (f : SeqFault) → IsAnother o → ((g : SeqFault) → more ≡ Some g → g.code ≢ NoMemory)
      → option_or (option_map (fault_at number) o) more ≡ Some f → f.code ≢ NoMemory
  one_of_two number None more f h k e = k f e
  one_of_two number (Some code) more f h k e = λ is. h (ap (λ (g : SeqFault). g.code) (same_Some (fault_at number code) f e) ∙ is)

  pub first_another : (at : Aboard) (number : ℕ) (ops : List operation.Op) (f : SeqFault) → first_fault ship at number ops ≡ Some f → f.code ≢ NoMemory
  first_another at number [] f h = absurd (none-some f h)
  first_another at number (op ∷ more) f h =
      one_of_two number (fault_of ship at op) (first_fault ship (after_step ship at op) (number + 1) more) f (step_another at op) (first_another (after_step ship at op) (number + 1) more) h

  pub sequence_another : (at : Aboard) (ops : List operation.Op) (f : SeqFault) → sequence_fault ship at ops ≡ Some f → f.code ≢ NoMemory
  sequence_another at ops f h = by_count (nat_lt 120000 (length ops)) h where
    by_count : (b : Bool) → (if b then Some (fault_at 120001 TooManySteps) else first_fault ship at 1 ops) ≡ Some f → f.code ≢ NoMemory
    by_count true e = λ is. many_another (ap (λ (g : SeqFault). g.code) (same_Some (fault_at 120001 TooManySteps) f e) ∙ is)
    by_count false e = first_another at 1 ops f e
