-- Whatever is put aboard legally has its place in the ship.
use Rattle.std.proofs.Common.{◌≡◌, ℕ, zero, suc, ◌+◌, List, [], ◌∷◌, length, take, Bool, true, false, cond, nat_eq, nat_lt, Option, None, Some, refl, sym, ap, ◌∙◌, eqb-true}
use Rattle.std.specs.Prelude.{if◌then◌else◌}
use Rattle.std.specs.Option.{is_some, option_or}
use Rattle.std.proofs.lemmas.Option.{none-some, same_Some}
use Rattle.units_core.specs.declared.cells.Cell.{Cell}
use Rattle.units_core.specs.Bodies.{Mass}
use Rattle.units_core.specs.Cells.{cell_eq}
use Rattle.stow_messages.specs.declared.items.Item.{Item}
use Rattle.stow_messages.specs.declared.lifts.Lift.TheVariants.{Load, Discharge}
use Rattle.ship_profile.specs.declared.fills.TankFill.{TankFill}
use Rattle.ship_profile.specs.Record.{ProfileRecord, place_of, tank_body, tank_of}
use Rattle.lift_sequence.specs.declared.containers.Container.{Container}
use Rattle.lift_sequence.specs.declared.faults.SeqFault.{SeqFault}
use Rattle.lift_sequence.specs.declared.operations.Op.{Op}
use Rattle.lift_sequence.specs.declared.operations.Op.TheVariants.{Lift, Fill, Restow}
use Rattle.lift_sequence.specs.Aboard.{Aboard, after_all, container_of, after_step, nothing, with_cell, with_tank}
use Rattle.lift_sequence.specs.Arrival.{arrival_fault, fills_fault, items_fault, on_arrival, with_fills, with_items}
use Rattle.lift_sequence.specs.Legal.{fault_of, fill_fault, overlap, over_fault, stand_fault, take_fault}
use Rattle.lift_sequence.specs.Places.{HasPlaces}
use Rattle.lift_sequence.specs.Sequence.{first_fault, sequence_fault}
use Rattle.lift_sequence.proofs.Listings.{cells_same, stood}
use Rattle.lift_sequence.proofs.States.{none_first}

-- where neither has a fault
pub neither : {X : Type 0} (a b : Option X) → option_or a b ≡ None → (a ≡ None) × (b ≡ None)
neither None b h = (refl, h)
neither (Some x) b h = absurd (none-some x (sym h))

pub has_body : (body : Option Mass) → over_fault body ≡ None → is_some body ≡ true
has_body None h = absurd (cc)
has_body (Some body) h = refl

module _ (ship : ProfileRecord) where
  pub has_place : (at : Aboard) (cell : Cell) → stand_fault ship at cell ≡ None → is_some (place_of ship cell) ≡ true
  has_place at cell h = ap is_some (stood (place_of ship cell) (is_some (at.cells cell)) (overlap at.cells cell) h).0.1

  -- something, or nothing, in a cell and in a tank
  in_cell : (at : Aboard) (cell : Cell) (w : Option Container) → HasPlaces ship at → (is_some w ≡ true → is_some (place_of ship cell) ≡ true) → HasPlaces ship (with_cell at cell w)
  in_cell at cell w places stands = record { cells = λ q. by_cell q (cell_eq cell q) refl; tanks = places.tanks } where
    by_cell : (q : Cell) (b : Bool) → cell_eq cell q ≡ b → is_some (cond b w (at.cells q)) ≡ true → is_some (place_of ship q) ≡ true
    by_cell q true e h = ap (λ c. is_some (place_of ship c)) (sym (cells_same cell q e)) ∙ stands h
    by_cell q false e h = places.cells q h

  in_tank : (at : Aboard) (tank kg : ℕ) → HasPlaces ship at → is_some (tank_body ship tank kg) ≡ true → HasPlaces ship (with_tank at (Some tank) kg)
  in_tank at tank kg places holds = record { cells = places.cells; tanks = λ t m. by_tank t m (nat_eq tank t) refl } where
    by_tank : (t m : ℕ) (b : Bool) → nat_eq tank t ≡ b → cond b (Some kg) (at.tanks t) ≡ Some m → is_some (tank_body ship t m) ≡ true
    by_tank t m true e h = (λ i. is_some (tank_body ship (sym (eqb-true tank t e) i) (sym (same_Some kg m h) i))) ∙ holds
    by_tank t m false e h = places.tanks t m h

  pub stowed_places : (at : Aboard) (cell : Cell) (c : Container) → HasPlaces ship at → stand_fault ship at cell ≡ None → HasPlaces ship (with_cell at cell (Some c))
  stowed_places at cell c places legal = in_cell at cell (Some c) places (λ h. has_place at cell legal)

  pub emptied_places : (at : Aboard) (cell : Cell) → HasPlaces ship at → HasPlaces ship (with_cell at cell None)
  emptied_places at cell places = in_cell at cell None places (λ h. absurd (cc))

  nothing_places : HasPlaces ship nothing
  nothing_places = record { cells = λ cell h. absurd (cc); tanks = λ tank kg h. absurd (none-some kg h) }

  items_places : (at : Aboard) (number : ℕ) (items : List Item) → HasPlaces ship at → items_fault ship at number items ≡ None → HasPlaces ship (with_items at items)
  items_places at number [] places legal = places
  items_places at number (item ∷ more) places legal =
      let next = with_cell at item.cell (Some (container_of item)) in
      let parts = none_first number (stand_fault ship at item.cell) (items_fault ship next (number + 1) more) legal in
      items_places next (number + 1) more (stowed_places at item.cell (container_of item) places parts.0) parts.1

  fills_places : (at : Aboard) (number : ℕ) (fills : List TankFill) → HasPlaces ship at → fills_fault ship number fills ≡ None → HasPlaces ship (with_fills at fills)
  fills_places at number [] places legal = places
  fills_places at number (fill ∷ more) places legal =
      let parts = none_first number (over_fault (tank_body ship fill.tank fill.kg)) (fills_fault ship (number + 1) more) legal in
      fills_places (with_tank at (Some fill.tank) fill.kg) (number + 1) more
      (in_tank at fill.tank fill.kg places (has_body (tank_body ship fill.tank fill.kg) parts.0)) parts.1

  pub arrival_places : (items : List Item) (fills : List TankFill) → arrival_fault ship items fills ≡ None → HasPlaces ship (on_arrival items fills)
  arrival_places items fills legal =
      let parts = neither (items_fault ship nothing 1 items) (fills_fault ship 1 fills) legal in
      fills_places (with_items nothing items) 1 fills (items_places nothing 1 items nothing_places parts.0) parts.1

  filled_places : (at : Aboard) (tank : Option ℕ) (kg : ℕ) → HasPlaces ship at → fill_fault ship tank kg ≡ None → HasPlaces ship (with_tank at tank kg)
  filled_places at None kg places legal = places
  filled_places at (Some tank) kg places legal = in_tank at tank kg places (has_body (tank_body ship tank kg) legal)

  step_places : (at : Aboard) (op : Op) → HasPlaces ship at → fault_of ship at op ≡ None → HasPlaces ship (after_step ship at op)
  step_places at (Lift (Load item)) places legal = stowed_places at item.cell (container_of item) places legal
  step_places at (Lift (Discharge cell id)) places legal = emptied_places at cell places
  step_places at (Fill name kg) places legal = filled_places at (tank_of ship name.items) kg places legal
  step_places at (Restow from to id) places legal =
      let between = with_cell at from None in
      let stands = (neither (take_fault ship at from id.items) (stand_fault ship between to) legal).1 in
      in_cell between to (at.cells from) (emptied_places at from places) (λ h. has_place between to stands)

  steps_places : (at : Aboard) (number : ℕ) (ops : List Op) (k : ℕ) → HasPlaces ship at → first_fault ship at number ops ≡ None → HasPlaces ship (after_all ship at (take k ops))
  steps_places at number ops zero places legal = places
  steps_places at number [] (suc k) places legal = places
  steps_places at number (op ∷ more) (suc k) places legal =
      let parts = none_first number (fault_of ship at op) (first_fault ship (after_step ship at op) (number + 1) more) legal in
      steps_places (after_step ship at op) (number + 1) more k (step_places at op places parts.0) parts.1

  few_steps : (b : Bool) (f : SeqFault) (o : Option SeqFault) → (if b then Some f else o) ≡ None → o ≡ None
  few_steps true f o h = absurd (none-some f (sym h))
  few_steps false f o h = h

  pub sequence_places : (at : Aboard) (ops : List Op) (k : ℕ) → HasPlaces ship at → sequence_fault ship at ops ≡ None → HasPlaces ship (after_all ship at (take k ops))
  sequence_places at ops k places legal = steps_places at 1 ops k places (few_steps (nat_lt 120000 (length ops)) _ (first_fault ship at 1 ops) legal)
