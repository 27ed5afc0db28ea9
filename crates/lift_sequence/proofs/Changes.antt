-- Each step changes every total over the bodies aboard by the bodies that it takes out and puts in.
use Rattle.std.proofs.Common.{◌≡◌, ℕ, zero, suc, ◌+◌, List, [], ◌∷◌, ◌++◌, take, length, Option, None, Some, nat_eq, nat_lt, ℤ, pos, ◌+ℤ◌, refl, sym, ap, ◌∙◌, arith, eqb-true}
use Rattle.std.specs.Prelude.{find}
use Rattle.std.specs.List.{IsDistinct, range_with_len}
use Rattle.std.specs.Map.{keys_of}
use Rattle.std.specs.Option.{is_some, option_map, option_or, option_to_list}
use Rattle.std.proofs.lemmas.Int.{ints}
use Rattle.std.proofs.lemmas.Option.{none-some}
use Rattle.units_core.specs.declared.bodies.Place.{Place}
use Rattle.units_core.specs.declared.cells.Cell.{Cell}
use Rattle.units_core.specs.Bodies.{Mass}
use Rattle.units_core.specs.Cells.{cell_eq}
use Rattle.stow_messages.specs.declared.lifts.Lift.TheVariants.{Load, Discharge}
use Rattle.ship_profile.specs.Record.{ProfileRecord, place_of, tank_of}
use Rattle.lift_sequence.specs.declared.containers.Container.{Container}
use Rattle.lift_sequence.specs.declared.faults.SeqCode.{SeqCode}
use Rattle.lift_sequence.specs.declared.operations.Op as operation
use Rattle.units_core.specs.declared.steps.Step.{Step}
use Rattle.lift_sequence.specs.declared.operations.Op.TheVariants.{Lift, Fill, Restow}
use Rattle.lift_sequence.specs.Aboard.{Aboard, with_cell, with_tank, after_step, after_all, container_of}
use Rattle.lift_sequence.specs.Bodies.{bodies, bodies_in_cells, bodies_in_tanks, body_in, filling_in, filling_step, step_of, steps_of}
use Rattle.lift_sequence.specs.Legal.{overlap, place_fault, stand_fault, take_fault, fault_of}
use Rattle.lift_sequence.specs.Sequence.{StepsAddUp, first_fault}
use Rattle.units_core.specs.Steps.{change}
use Rattle.units_core.specs.Totals.{total}
use Rattle.lift_sequence.proofs.Listings.{cells_same, distinct_range, found, tank_given}
use Rattle.lift_sequence.proofs.States.{none_first}
use Rattle.lift_sequence.proofs.Totals.{changed, given, gives, total-append}

-- the ship's cells
cell_gives : (w : Option Container) (o : Option (Cell × Place))
    → gives (λ (e : Cell × Place). e.0) cell_eq cells_same (λ e held. option_to_list (body_in (Some e.1) held)) (λ e. refl) o w
    ≡ option_to_list (body_in (option_map (λ (e : Cell × Place). e.1) o) w)
cell_gives w None = refl
cell_gives w (Some e) = refl

nowhere : (o : Option Place) → body_in o None ≡ None
nowhere None = refl
nowhere (Some p) = refl

module _ (ship : ProfileRecord) (f : Mass → ℤ) where
  -- what a total has of a cell, and of a tank
  abbrev in_cell : Cell → Option Container → ℤ
  in_cell cell w = total f (option_to_list (body_in (place_of ship cell) w))

  abbrev in_tank : ℕ → Option ℕ → ℤ
  in_tank tank w = total f (option_to_list (filling_in ship tank w))

  element_gives : (k : Cell) (w : Option Container)
      → gives (λ (e : Cell × Place). e.0) cell_eq cells_same (λ e held. option_to_list (body_in (Some e.1) held)) (λ e. refl) (find (λ (e : Cell × Place). cell_eq k e.0) ship.tables.cells) w
      ≡ option_to_list (body_in (place_of ship k) w)
  element_gives k w =
      cell_gives w (find (λ (e : Cell × Place). cell_eq k e.0) ship.tables.cells) ∙ ap (λ (o : Option Place). option_to_list (body_in o w)) (sym (found ship k ship.tables.cells))

  tank_gives : (k : ℕ) (w : Option ℕ)
      → gives (λ (t : ℕ). t) nat_eq (λ a b h. eqb-true a b h) (λ t held. option_to_list (filling_in ship t held)) (λ t. refl) (find (λ (t : ℕ). nat_eq k t) (range_with_len 0 (length ship.tables.tanks))) w
      ≡ option_to_list (filling_in ship k w)
  tank_gives k None = none (find (λ (t : ℕ). nat_eq k t) (range_with_len 0 (length ship.tables.tanks))) where
    none : (o : Option ℕ) → gives (λ (t : ℕ). t) nat_eq (λ a b h. eqb-true a b h) (λ t held. option_to_list (filling_in ship t held)) (λ t. refl) o None ≡ []
    none None = refl
    none (Some t) = refl
  tank_gives k (Some kg) =
      some (find (λ (t : ℕ). nat_eq k t) (range_with_len 0 (length ship.tables.tanks))) ∙ tank_given ship k kg (nat_lt k (length ship.tables.tanks)) refl where
        some : (o : Option ℕ) → gives (λ (t : ℕ). t) nat_eq (λ a b h. eqb-true a b h) (λ t held. option_to_list (filling_in ship t held)) (λ t. refl) o (Some kg)
            ≡ given (λ (t : ℕ). t) nat_eq (λ a b h. eqb-true a b h) (λ t held. option_to_list (filling_in ship t held)) (λ t. refl) o kg
        some None = refl
        some (Some t) = refl

  parts : (at : Aboard) → total f (bodies ship at) ≡ total f ship.ship.blocks +ℤ (total f (bodies_in_tanks ship at.tanks) +ℤ total f (bodies_in_cells ship at.cells))
  parts at =
      omega (
        arith,
        ints,
        total-append f ship.ship.blocks (bodies_in_tanks ship at.tanks ++ bodies_in_cells ship at.cells),
        total-append f (bodies_in_tanks ship at.tanks) (bodies_in_cells ship at.cells),
      )

  -- what stands in one cell changes
  pub one_cell : (at : Aboard) (cell : Cell) (w : Option Container) → IsDistinct cell_eq (keys_of ship.tables.cells)
      → total f (bodies ship (with_cell at cell w)) +ℤ in_cell cell (at.cells cell) ≡ total f (bodies ship at) +ℤ in_cell cell w
  one_cell at cell w tidy =
      let rows = changed (λ (e : Cell × Place). e.0) cell_eq cells_same (λ e held. option_to_list (body_in (Some e.1) held)) (λ e. refl) f at.cells cell w ship.tables.cells tidy in
      omega (
        arith,
        ints,
        rows,
        parts at,
        parts (with_cell at cell w),
        ap (total f) (element_gives cell w),
        ap (total f) (element_gives cell (at.cells cell)),
      )

  -- what one tank holds changes
  pub one_tank : (at : Aboard) (tank kg : ℕ)
      → total f (bodies ship (with_tank at (Some tank) kg)) +ℤ in_tank tank (at.tanks tank) ≡ total f (bodies ship at) +ℤ in_tank tank (Some kg)
  one_tank at tank kg =
      let rows = changed (λ (t : ℕ). t) nat_eq (λ a b h. eqb-true a b h) (λ t held. option_to_list (filling_in ship t held)) (λ t. refl) f at.tanks tank (Some kg)
      (range_with_len 0 (length ship.tables.tanks)) (distinct_range 0 (length ship.tables.tanks)) in
      omega (
        arith,
        ints,
        rows,
        parts at,
        parts (with_tank at (Some tank) kg),
        ap (total f) (tank_gives tank (Some kg)),
        ap (total f) (tank_gives tank (at.tanks tank)),
      )

  empty_cell : (cell : Cell) (o : Option Container) → o ≡ None → in_cell cell o ≡ pos 0
  empty_cell cell o e = ap (in_cell cell) e ∙ ap (λ (m : Option Mass). total f (option_to_list m)) (nowhere (place_of ship cell))

  -- a container that can be put into a cell finds it empty
  free : (o : Option Place) (c : Option Container) (rival : Option Cell) → place_fault o (is_some c) rival ≡ None → c ≡ None
  free None c rival h = absurd (cc)
  free (Some p) None rival h = refl
  free (Some p) (Some c) rival h = absurd (cc)

  second : (a b : Option SeqCode) → option_or a b ≡ None → b ≡ None
  second None b h = h
  second (Some a) b h = absurd (none-some a (sym h))

  filled : (at : Aboard) (o : Option ℕ) (kg : ℕ) → total f (bodies ship (with_tank at o kg)) ≡ total f (bodies ship at) +ℤ change f (filling_step ship at o kg)
  filled at None kg = omega (arith, ints)
  filled at (Some tank) kg = omega (arith, ints, one_tank at tank kg)

  -- a step changes the total by what it puts in, less what it takes out
  pub one_step : (at : Aboard) (op : operation.Op) → IsDistinct cell_eq (keys_of ship.tables.cells) → fault_of ship at op ≡ None
      → total f (bodies ship (after_step ship at op)) ≡ total f (bodies ship at) +ℤ change f (step_of ship at op)
  one_step at (Lift (Load item)) tidy legal =
      let was = empty_cell item.cell (at.cells item.cell) (free (place_of ship item.cell) (at.cells item.cell) (overlap at.cells item.cell) legal) in
      omega (arith, ints, one_cell at item.cell (Some (container_of item)) tidy, was)
  one_step at (Lift (Discharge cell id)) tidy legal = omega (arith, ints, one_cell at cell None tidy, empty_cell cell None refl)
  one_step at (Fill name kg) tidy legal = filled at (tank_of ship name.items) kg
  one_step at (Restow from to id) tidy legal =
      let between = with_cell at from None in
      let stands = second (take_fault ship at from id.items) (stand_fault ship between to) legal in
      let was = empty_cell to (between.cells to) (free (place_of ship to) (between.cells to) (overlap between.cells to) stands) in
      omega (arith, ints, one_cell at from None tidy, one_cell between to (at.cells from) tidy, empty_cell from None refl, was)

  -- and any number of steps by what they all change
  pub all_steps : (at : Aboard) (ops : List operation.Op) (number k : ℕ) → IsDistinct cell_eq (keys_of ship.tables.cells) → first_fault ship at number ops ≡ None
      → total f (bodies ship (after_all ship at (take k ops))) ≡ total f (bodies ship at) +ℤ total (change f) (take k (steps_of ship at ops))
  all_steps at ops number zero tidy legal = omega (arith, ints)
  all_steps at [] number (suc k) tidy legal = omega (arith, ints)
  all_steps at (op ∷ more) number (suc k) tidy legal =
      let both = none_first number (fault_of ship at op) (first_fault ship (after_step ship at op) (number + 1) more) legal in
      omega (arith, ints, one_step at op tidy both.0, all_steps (after_step ship at op) more (number + 1) k tidy both.1)

-- so what steps change adds up, whatever value is added up
pub add_up : (ship : ProfileRecord) (at : Aboard) (ops : List operation.Op) (steps : List Step) (number : ℕ) → IsDistinct cell_eq (keys_of ship.tables.cells)
    → first_fault ship at number ops ≡ None → steps ≡ steps_of ship at ops → StepsAddUp ship at ops steps
add_up ship at ops steps number tidy legal is f k =
    all_steps ship f at ops number k tidy legal ∙ ap (λ (s : List Step). total f (bodies ship at) +ℤ total (change f) (take k s)) (sym is)
