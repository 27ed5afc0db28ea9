-- What another weight of a container changes of the steps behind its load.
use Rattle.std.proofs.Common.{◌≡◌, ℕ, zero, suc, ◌+◌, ◌<◌, ◌≤◌, List, [], ◌∷◌, length, take, drop, set, get_or, Option, None, Some, Bool, true, false, cond, nat_eq, nat_lt, refl, sym, ap, ◌∙◌, subst, arith}
use Rattle.std.specs.Prelude.{⊤, slice_get, option_and_then, find, ◌&&◌, if◌then◌else◌}
use Rattle.std.specs.List.{range_with_len}
use Rattle.std.specs.Map.{update}
use Rattle.std.specs.Option.{is_some, is_none, option_map, option_or}
use Rattle.std.proofs.lemmas.List.{length-set}
use Rattle.std.proofs.lemmas.Option.{none-some, same_Some, slice_get-get_or, slice_get_within}
use Rattle.units_core.specs.declared.bodies.Place.{Place}
use Rattle.units_core.specs.declared.cells.Cell.{Cell}
use Rattle.units_core.specs.Cells.{cell_eq, meet}
use Rattle.stow_messages.specs.declared.items.Item.{Item}
use Rattle.stow_messages.specs.declared.lifts.Lift.TheVariants.{Load, Discharge}
use Rattle.ship_profile.specs.Record.{ProfileRecord, place_of, tank_of}
use Rattle.lift_sequence.specs.declared.containers.Container.{Container}
use Rattle.lift_sequence.specs.declared.faults.SeqCode.TheVariants.{TooManySteps, UnknownCell}
use Rattle.lift_sequence.specs.declared.faults.SeqFault.{SeqFault}
use Rattle.lift_sequence.specs.declared.operations.Op as operation
use Rattle.lift_sequence.specs.declared.operations.Op.TheVariants.{Lift, Fill, Restow}
use Rattle.units_core.specs.declared.steps.Step.{Step}
use Rattle.lift_sequence.specs.Aboard.{Aboard, after_step, container_of, with_cell, with_tank}
use Rattle.lift_sequence.specs.Arrival.{fault_at}
use Rattle.lift_sequence.specs.Bodies.{body_in, filling_step, step_of, steps_of}
use Rattle.units_core.specs.Steps.{body_weighed, step_weighed}
use Rattle.lift_sequence.specs.Follow.{AreReweighed, AreReweighedOnce, FewMoves, IsLoad, Reweighs, ReweighsSequences, loaded_at, loaded_cell, moves, moves_in, next_cell, restows_in, reweighed, steps_weighed, weighed_at, with_step}
use Rattle.lift_sequence.specs.Legal.{fault_of, hold_fault, in_bay, is_rival, overlap, place_fault, stand_fault, take_fault}
use Rattle.lift_sequence.specs.Sequence.{first_fault, sequence_fault}
use Rattle.lift_sequence.proofs.Listings.{cells_same, is_free, stood}
use Rattle.lift_sequence.proofs.PlaceLemmas.{neither}
use Rattle.lift_sequence.proofs.States.{none_first}

-- a container ashore is moved by no step, and one aboard by one step at most besides its restows
moves_none : (ops : List operation.Op) → moves_in None ops ≡ 0
moves_none [] = refl
moves_none (op ∷ more) = omega (arith, moves_none more)

pub moves_few : FewMoves
moves_few cell [] = omega arith
moves_few None (op ∷ more) = omega (arith, moves_none more)
moves_few (Some c) (Lift (Load item) ∷ more) = omega (arith, moves_few (Some c) more)
moves_few (Some c) (Fill name kg ∷ more) = omega (arith, moves_few (Some c) more)
moves_few (Some c) (Lift (Discharge cell id) ∷ more) = by_cell (cell_eq c cell) (moves_few (Some c) more) where
  by_cell : (b : Bool) → moves_in (Some c) more ≤ restows_in (Some c) more + 1
      → (if b then 1 else 0) + moves_in (if b then None else Some c) more ≤ 0 + restows_in (if b then None else Some c) more + 1
  by_cell true h = omega (arith, moves_none more)
  by_cell false h = omega (arith, h)
moves_few (Some c) (Restow from to id ∷ more) = by_cell (cell_eq c from) (moves_few (Some c) more) (moves_few (Some to) more) where
  by_cell : (b : Bool) → moves_in (Some c) more ≤ restows_in (Some c) more + 1 → moves_in (Some to) more ≤ restows_in (Some to) more + 1
      → (if b then 1 else 0) + moves_in (if b then Some to else Some c) more ≤ (if b then 1 else 0) + restows_in (if b then Some to else Some c) more + 1
  by_cell true h k = omega (arith, k)
  by_cell false h k = omega (arith, h)

-- cells by their tests, and what is written into two of them or twice into one
pub turned_round : (a b : Cell) → cell_eq a b ≡ cell_eq b a
turned_round a b = rw (number a.bay b.bay, number a.row b.row, number a.tier b.tier) refl where
  number : (m n : ℕ) → nat_eq m n ≡ nat_eq n m
  number m n = grind arith

is_itself : (a : Cell) → cell_eq a a ≡ true
is_itself a = rw (number a.bay, number a.row, number a.tier) refl where
  number : (m : ℕ) → nat_eq m m ≡ true
  number m = grind arith

pub either_first : (f : Cell → Option Container) (a b : Cell) (x y : Option Container) → cell_eq a b ≡ false
    → update cell_eq (update cell_eq f a x) b y ≡ update cell_eq (update cell_eq f b y) a x
either_first f a b x y apart = λ i q. at q (cell_eq a q) refl (cell_eq b q) refl i where
  clash : true ≡ false → ⊥
  clash z = cc

  at : (q : Cell) (m : Bool) → cell_eq a q ≡ m → (n : Bool) → cell_eq b q ≡ n
      → cond (cell_eq b q) y (cond (cell_eq a q) x (f q)) ≡ cond (cell_eq a q) x (cond (cell_eq b q) y (f q))
  at q true e true h = absurd (clash (sym (ap (λ z. cell_eq a z) (cells_same b q h) ∙ e) ∙ apart))
  at q true e false h = rw (e, h) refl
  at q false e true h = rw (e, h) refl
  at q false e false h = rw (e, h) refl

last_stands : (f : Cell → Option Container) (a : Cell) (x y : Option Container) → update cell_eq (update cell_eq f a x) a y ≡ update cell_eq f a y
last_stands f a x y = λ i q. at q (cell_eq a q) i where
  at : (q : Cell) (m : Bool) → cond m y (cond m x (f q)) ≡ cond m y (f q)
  at q true = refl
  at q false = refl

is_written : (f : Cell → Option Container) (c : Cell) (v : Option Container) → update cell_eq f c v c ≡ v
is_written f c v = ap (λ b. cond b v (f c)) (is_itself c)

-- a container of another weight, and what is aboard where the container of a cell is one
abbrev box_weighed : ℕ → Container → Container
box_weighed kg box = record { id = box.id; kg = kg }

abbrev weighed_in : ℕ → Aboard → Option Cell → Aboard
weighed_in kg at None = at
weighed_in kg at (Some c) = with_cell at c (option_map (box_weighed kg) (at.cells c))

-- the container that is followed stands there
abbrev Stands : Aboard → Option Cell → Type 0
Stands at None = ⊤
Stands at (Some c) = is_some (at.cells c) ≡ true

-- a cell in which something stands is another than one in which nothing does
taken : (o : Option Container) → is_some o ≡ true → o ≡ None → ⊥
taken None h e = cc
taken (Some box) h e = none-some box (sym e)

apart : (f : Cell → Option Container) (c d : Cell) → is_some (f c) ≡ true → f d ≡ None → cell_eq d c ≡ false
apart f c d h e = by_test (cell_eq d c) refl where
  by_test : (b : Bool) → cell_eq d c ≡ b → cell_eq d c ≡ false
  by_test true is = absurd (taken (f c) h (ap f (sym (cells_same d c is)) ∙ e))
  by_test false is = is

-- the cells that are taken are the same, whatever stands in them weighs
is_there : (kg : ℕ) (o : Option Container) → is_some (option_map (box_weighed kg) o) ≡ is_some o
is_there kg None = refl
is_there kg (Some box) = refl

taken_same : (kg : ℕ) (at : Aboard) (c q : Cell) → is_some ((weighed_in kg at (Some c)).cells q) ≡ is_some (at.cells q)
taken_same kg at c q = by_test (cell_eq c q) refl where
  by_test : (b : Bool) → cell_eq c q ≡ b → is_some (cond b (option_map (box_weighed kg) (at.cells c)) (at.cells q)) ≡ is_some (at.cells q)
  by_test true is = is_there kg (at.cells c) ∙ ap (λ x. is_some (at.cells x)) (cells_same c q is)
  by_test false is = refl

without_same : (kg : ℕ) (at : Aboard) (c d q : Cell) → is_some ((with_cell (weighed_in kg at (Some c)) d None).cells q) ≡ is_some ((with_cell at d None).cells q)
without_same kg at c d q = by_test (cell_eq d q) where
  by_test : (b : Bool) → is_some (cond b None ((weighed_in kg at (Some c)).cells q)) ≡ is_some (cond b None (at.cells q))
  by_test true = refl
  by_test false = taken_same kg at c q

rivals_same : (f g : Cell → Option Container) (d : Cell) → ((q : Cell) → is_some (g q) ≡ is_some (f q)) → (bays : List ℕ) → find (is_rival g d) bays ≡ find (is_rival f d) bays
rivals_same f g d e bays = λ i. find (λ bay. e (in_bay d bay) i && meet bay d.bay) bays

overlap_same : (f g : Cell → Option Container) (d : Cell) → ((q : Cell) → is_some (g q) ≡ is_some (f q)) → overlap g d ≡ overlap f d
unfolding overlap
overlap_same f g d e = ap (option_map (in_bay d)) (rivals_same f g d e (range_with_len 0 1000))

hold_weighed : (kg : ℕ) (id : List ℕ) (o : Option Container) → hold_fault id (option_map (box_weighed kg) o) ≡ hold_fault id o
hold_weighed kg id None = refl
hold_weighed kg id (Some box) = refl

hold_same : (kg : ℕ) (at : Aboard) (c q : Cell) (id : List ℕ) → hold_fault id ((weighed_in kg at (Some c)).cells q) ≡ hold_fault id (at.cells q)
hold_same kg at c q id = by_test (cell_eq c q) refl where
  by_test : (b : Bool) → cell_eq c q ≡ b → hold_fault id (cond b (option_map (box_weighed kg) (at.cells c)) (at.cells q)) ≡ hold_fault id (at.cells q)
  by_test true is = hold_weighed kg id (at.cells c) ∙ ap (λ x. hold_fault id (at.cells x)) (cells_same c q is)
  by_test false is = refl

module _ (ship : ProfileRecord) (kg : ℕ) where
  stand_same : (a b : Aboard) (d : Cell) → ((q : Cell) → is_some (b.cells q) ≡ is_some (a.cells q)) → stand_fault ship b d ≡ stand_fault ship a d
  stand_same a b d e = λ i. place_fault (place_of ship d) (e d i) (overlap_same a.cells b.cells d e i)

  take_same : (at : Aboard) (c q : Cell) (id : List ℕ) → take_fault ship (weighed_in kg at (Some c)) q id ≡ take_fault ship at q id
  take_same at c q id = λ i. if is_none (place_of ship q) then Some UnknownCell else hold_same kg at c q id i

  -- no step is judged by a weight
  fault_same : (at : Aboard) (cell : Option Cell) (op : operation.Op) → fault_of ship (weighed_in kg at cell) op ≡ fault_of ship at op
  fault_same at None op = refl
  fault_same at (Some c) (Lift (Load item)) = stand_same at (weighed_in kg at (Some c)) item.cell (taken_same kg at c)
  fault_same at (Some c) (Lift (Discharge cell id)) = take_same at c cell id.items
  fault_same at (Some c) (Fill name mass) = refl
  fault_same at (Some c) (Restow from to id) = λ i. option_or (take_same at c from id.items i)
      (stand_same (with_cell at from None) (with_cell (weighed_in kg at (Some c)) from None) to (without_same kg at c from) i)

  -- what a step takes out and puts in
  body_same : (p : Option Place) (o : Option Container) → body_in p (option_map (box_weighed kg) o) ≡ option_map (body_weighed kg) (body_in p o)
  body_same None o = refl
  body_same (Some p) None = refl
  body_same (Some p) (Some box) = refl

  filling_same : (at b : Aboard) (o : Option ℕ) (mass : ℕ) → b.tanks ≡ at.tanks → filling_step ship b o mass ≡ filling_step ship at o mass
  filling_same at b None mass e = refl
  filling_same at b (Some tank) mass e = λ i. filling_step ship (record { cells = at.cells; tanks = e i }) (Some tank) mass

  step_same : (at : Aboard) (cell : Option Cell) (op : operation.Op)
      → step_of ship (weighed_in kg at cell) op ≡ (if moves cell op then step_weighed kg (step_of ship at op) else step_of ship at op)
  step_same at None op = refl
  step_same at (Some c) (Lift (Load item)) = refl
  step_same at (Some c) (Fill name mass) = filling_same at (weighed_in kg at (Some c)) (tank_of ship name.items) mass refl
  step_same at (Some c) (Lift (Discharge cell id)) = by_test (cell_eq c cell) refl where
    by_test : (b : Bool) → cell_eq c cell ≡ b
        → record { out = body_in (place_of ship cell) (cond b (option_map (box_weighed kg) (at.cells c)) (at.cells cell)); put = None }
        ≡ (if b then step_weighed kg (step_of ship at (Lift (Discharge cell id))) else step_of ship at (Lift (Discharge cell id)))
    by_test true is = λ i. record {
      out = (ap (λ q. body_in (place_of ship cell) (option_map (box_weighed kg) (at.cells q))) (cells_same c cell is) ∙ body_same (place_of ship cell) (at.cells cell)) i;
      put = None;
    }
    by_test false is = refl
  step_same at (Some c) (Restow from to id) = by_test (cell_eq c from) refl where
    by_test : (b : Bool) → cell_eq c from ≡ b
        → record {
          out = body_in (place_of ship from) (cond b (option_map (box_weighed kg) (at.cells c)) (at.cells from));
          put = body_in (place_of ship to) (cond b (option_map (box_weighed kg) (at.cells c)) (at.cells from));
        }
        ≡ (if b then step_weighed kg (step_of ship at (Restow from to id)) else step_of ship at (Restow from to id))
    by_test true is = λ i. record {
      out = (ap (λ q. body_in (place_of ship from) (option_map (box_weighed kg) (at.cells q))) (cells_same c from is) ∙ body_same (place_of ship from) (at.cells from)) i;
      put = (ap (λ q. body_in (place_of ship to) (option_map (box_weighed kg) (at.cells q))) (cells_same c from is) ∙ body_same (place_of ship to) (at.cells from)) i;
    }
    by_test false is = refl

  -- What is aboard after a step: another cell is written, or the one in which the container stands is emptied.
  elsewhere : (at : Aboard) (c d : Cell) (v : Option Container) → cell_eq d c ≡ false
      → with_cell (weighed_in kg at (Some c)) d v ≡ weighed_in kg (with_cell at d v) (Some c)
  elsewhere at c d v e =
      let f : Cell → Option Container = at.cells in
      let x : Option Container = option_map (box_weighed kg) (f c) in
      let same : option_map (box_weighed kg) (update cell_eq f d v c) ≡ x = ap (λ b. option_map (box_weighed kg) (cond b v (f c))) e in
      λ i. record { cells = (either_first f c d x v (turned_round c d ∙ e) ∙ ap (λ y. update cell_eq (update cell_eq f d v) c y) (sym same)) i; tanks = at.tanks }

  stays : (at : Aboard) (c d : Cell) (v : Option Container) → cell_eq d c ≡ false → Stands at (Some c) → Stands (with_cell at d v) (Some c)
  stays at c d v e h = ap (λ b. is_some (cond b v (at.cells c))) e ∙ h

  emptied : (at : Aboard) (c : Cell) → with_cell (weighed_in kg at (Some c)) c None ≡ with_cell at c None
  emptied at c = λ i. record { cells = last_stands at.cells c (option_map (box_weighed kg) (at.cells c)) None i; tanks = at.tanks }

  tank_same : (at : Aboard) (o : Option ℕ) (mass : ℕ) (c : Cell) → with_tank (weighed_in kg at (Some c)) o mass ≡ weighed_in kg (with_tank at o mass) (Some c)
  tank_same at None mass c = refl
  tank_same at (Some tank) mass c = refl

  tank_stays : (at : Aboard) (o : Option ℕ) (mass : ℕ) (c : Cell) → Stands at (Some c) → Stands (with_tank at o mass) (Some c)
  tank_stays at None mass c h = h
  tank_stays at (Some tank) mass c h = h

  -- a cell into which a container can be put is empty
  empty : (at : Aboard) (cell : Cell) → stand_fault ship at cell ≡ None → at.cells cell ≡ None
  empty at cell legal = is_free (at.cells cell) (stood (place_of ship cell) (is_some (at.cells cell)) (overlap at.cells cell) legal).1

  -- the container's own restow
  restowed : (at : Aboard) (from to : Cell) → Stands at (Some from)
      → (with_cell (with_cell (weighed_in kg at (Some from)) from None) to (option_map (box_weighed kg) (at.cells from))
      ≡ weighed_in kg (with_cell (with_cell at from None) to (at.cells from)) (Some to))
      × Stands (with_cell (with_cell at from None) to (at.cells from)) (Some to)
  restowed at from to holds =
      let between : Aboard = with_cell at from None in
      let put : Option Container = option_map (box_weighed kg) (at.cells from) in
      let there : update cell_eq between.cells to (at.cells from) to ≡ at.cells from = is_written between.cells to (at.cells from) in
      let right : weighed_in kg (with_cell between to (at.cells from)) (Some to) ≡ with_cell between to put
      = ap (λ (o : Option Container). with_cell (with_cell between to (at.cells from)) to (option_map (box_weighed kg) o)) there
      ∙ (λ i. record { cells = last_stands between.cells to (at.cells from) put i; tanks = at.tanks }) in
      (ap (λ (a : Aboard). with_cell a to put) (emptied at from) ∙ sym right, ap (λ (o : Option Container). is_some o) there ∙ holds)

  state_same : (at : Aboard) (cell : Option Cell) (op : operation.Op) → fault_of ship at op ≡ None → Stands at cell
      → (after_step ship (weighed_in kg at cell) op ≡ weighed_in kg (after_step ship at op) (next_cell cell op)) × Stands (after_step ship at op) (next_cell cell op)
  state_same at None op legal holds = (refl, tt)
  state_same at (Some c) (Fill name mass) legal holds = (tank_same at (tank_of ship name.items) mass c, tank_stays at (tank_of ship name.items) mass c holds)
  state_same at (Some c) (Lift (Load item)) legal holds =
      let e = apart at.cells c item.cell holds (empty at item.cell legal) in
      (elsewhere at c item.cell (Some (container_of item)) e, stays at c item.cell (Some (container_of item)) e holds)
  state_same at (Some c) (Lift (Discharge cell id)) legal holds = by_test (cell_eq c cell) refl where
    by_test : (b : Bool) → cell_eq c cell ≡ b
        → (with_cell (weighed_in kg at (Some c)) cell None ≡ weighed_in kg (with_cell at cell None) (if b then None else Some c))
        × Stands (with_cell at cell None) (if b then None else Some c)
    by_test true is = (subst (λ q. with_cell (weighed_in kg at (Some c)) q None ≡ with_cell at q None) (cells_same c cell is) (emptied at c), tt)
    by_test false is =
        let e = turned_round cell c ∙ is in
        (elsewhere at c cell None e, stays at c cell None e holds)
  state_same at (Some c) (Restow from to id) legal holds = by_test (cell_eq c from) refl where
    by_test : (b : Bool) → cell_eq c from ≡ b
        → (with_cell (with_cell (weighed_in kg at (Some c)) from None) to (cond b (option_map (box_weighed kg) (at.cells c)) (at.cells from))
        ≡ weighed_in kg (with_cell (with_cell at from None) to (at.cells from)) (if b then Some to else Some c))
        × Stands (with_cell (with_cell at from None) to (at.cells from)) (if b then Some to else Some c)
    by_test true is =
        let one : c ≡ from = cells_same c from is in
        let both = restowed at from to (subst (λ q. is_some (at.cells q) ≡ true) one holds) in (
          subst (λ q. with_cell (with_cell (weighed_in kg at (Some q)) from None) to (option_map (box_weighed kg) (at.cells q))
              ≡ weighed_in kg (with_cell (with_cell at from None) to (at.cells from)) (Some to)) (sym one) both.0,
          both.1,
        )
    by_test false is =
        let between : Aboard = with_cell at from None in
        let e : cell_eq from c ≡ false = turned_round from c ∙ is in
        let holds_still : Stands between (Some c) = stays at c from None e holds in
        let d : cell_eq to c ≡ false = apart between.cells c to holds_still (empty between to (neither (take_fault ship at from id.items) (stand_fault ship between to) legal).1) in
        (ap (λ (a : Aboard). with_cell a to (at.cells from)) (elsewhere at c from None e) ∙ elsewhere between c to (at.cells from) d, stays between c to (at.cells from) d holds_still)

  -- so through all steps
  next_fault : (number : ℕ) (at : Aboard) (op : operation.Op) (more : List operation.Op) → fault_of ship at op ≡ None → first_fault ship (after_step ship at op) (number + 1) more ≡ None
      → first_fault ship at number (op ∷ more) ≡ None
  next_fault number at op more h k = λ i. option_or (option_map (fault_at number) (h i)) (k i)

  all_same : (at : Aboard) (cell : Option Cell) (number : ℕ) (ops : List operation.Op) → first_fault ship at number ops ≡ None → Stands at cell
      → (steps_of ship (weighed_in kg at cell) ops ≡ steps_weighed kg cell ops (steps_of ship at ops)) × (first_fault ship (weighed_in kg at cell) number ops ≡ None)
  all_same at cell number [] legal holds = (refl, refl)
  all_same at cell number (op ∷ more) legal holds =
      let both = none_first number (fault_of ship at op) (first_fault ship (after_step ship at op) (number + 1) more) legal in
      let one = state_same at cell op both.0 holds in
      let rest = all_same (after_step ship at op) (next_cell cell op) (number + 1) more both.1 one.1 in (
        (λ i. step_same at cell op i ∷ (ap (λ (a : Aboard). steps_of ship a more) one.0 ∙ rest.0) i),
        next_fault number (weighed_in kg at cell) op more (fault_same at cell op ∙ both.0) (ap (λ (a : Aboard). first_fault ship a (number + 1) more) one.0 ∙ rest.1),
      )

  -- a list, and the list with the load at a place of another weight
  abbrev AreWeighed : Aboard → List operation.Op → List operation.Op → ℕ → ℕ → Cell → Type 0
  AreWeighed at ops weighed i number cell =
      (first_fault ship at number weighed ≡ None)
      × (take i (steps_of ship at weighed) ≡ take i (steps_of ship at ops))
      × (slice_get (steps_of ship at weighed) i ≡ option_map (step_weighed kg) (slice_get (steps_of ship at ops) i))
      × (drop (suc i) (steps_of ship at weighed) ≡ steps_weighed kg (Some cell) (drop (suc i) ops) (drop (suc i) (steps_of ship at ops)))

  load_weighs : (at : Aboard) (item : Item) (number : ℕ) (more : List operation.Op) → first_fault ship at number (Lift (Load item) ∷ more) ≡ None
      → AreWeighed at (Lift (Load item) ∷ more) (reweighed kg (Lift (Load item)) ∷ more) zero number item.cell
  load_weighs at item number more legal =
      let load : operation.Op = Lift (Load item) in
      let both = none_first number (fault_of ship at load) (first_fault ship (after_step ship at load) (number + 1) more) legal in
      let box : Option Container = Some (container_of item) in
      let next : Aboard = with_cell at item.cell box in
      let there : next.cells item.cell ≡ box = is_written at.cells item.cell box in
      let new : after_step ship at (reweighed kg load) ≡ weighed_in kg next (Some item.cell) = sym (
      ap (λ (o : Option Container). with_cell next item.cell (option_map (box_weighed kg) o)) there
      ∙ (λ i. record { cells = last_stands at.cells item.cell box (option_map (box_weighed kg) box) i; tanks = at.tanks })) in
      let rest = all_same next (Some item.cell) (number + 1) more both.1 (ap (λ (o : Option Container). is_some o) there) in (
        next_fault number at (reweighed kg load) more both.0 (ap (λ (a : Aboard). first_fault ship a (number + 1) more) new ∙ rest.1),
        refl,
        λ i. Some (record { out = None; put = body_same (place_of ship item.cell) box i }),
        ap (λ (a : Aboard). steps_of ship a more) new ∙ rest.0,
      )

  set_weighs : (at : Aboard) (ops : List operation.Op) (i : ℕ) (item : Item) (number : ℕ) → first_fault ship at number ops ≡ None → slice_get ops i ≡ Some (Lift (Load item))
      → AreWeighed at ops (set ops i (reweighed kg (Lift (Load item)))) i number item.cell
  set_weighs at [] i item number legal h = absurd (none-some (Lift (Load item)) h)
  set_weighs at (op ∷ more) zero item number legal h =
      subst (λ o. first_fault ship at number (o ∷ more) ≡ None → AreWeighed at (o ∷ more) (reweighed kg (Lift (Load item)) ∷ more) zero number item.cell) (sym (same_Some op _ h))
      (load_weighs at item number more) legal
  set_weighs at (op ∷ more) (suc i) item number legal h =
      let both = none_first number (fault_of ship at op) (first_fault ship (after_step ship at op) (number + 1) more) legal in
      let rest = set_weighs (after_step ship at op) more i item (number + 1) both.1 h in
      (next_fault number at op (set more i (reweighed kg (Lift (Load item)))) both.0 rest.0, ap (λ steps. step_of ship at op ∷ steps) rest.1, rest.2, rest.3)

-- the item that a load at a place loads
load_there : (ops : List operation.Op) (i : ℕ) → IsLoad ops i → (item : Item) × (slice_get ops i ≡ Some (Lift (Load item)))
load_there ops i h = by_step (slice_get ops i) refl h where
  by_step : (o : Option operation.Op) → slice_get ops i ≡ o → is_some (option_and_then loaded_cell o) ≡ true → (item : Item) × (slice_get ops i ≡ Some (Lift (Load item)))
  by_step None e k = absurd (cc)
  by_step (Some (Lift (Load item))) e k = (item, e)
  by_step (Some (Lift (Discharge cell id))) e k = absurd (cc)
  by_step (Some (Fill name kg)) e k = absurd (cc)
  by_step (Some (Restow from to id)) e k = absurd (cc)

pub weighed_is : (kg : ℕ) (ops : List operation.Op) (i : ℕ) (op : operation.Op) → slice_get ops i ≡ Some op → weighed_at kg i ops ≡ set ops i (reweighed kg op)
weighed_is kg ops i op h = ap (λ o. with_step ops i (option_map (reweighed kg) o)) h

pub set_is : (kg : ℕ) (ops now : List operation.Op) (i : ℕ) (op value : operation.Op) → ops ≡ now → i < length ops → op ≡ get_or ops i op → value ≡ reweighed kg op
    → set ops i value ≡ weighed_at kg i now
set_is kg ops now i op value same inside at is =
    ap (set ops i) is ∙ sym (weighed_is kg ops i op (slice_get-get_or ops i op inside ∙ ap (λ o. Some o) (sym at))) ∙ ap (weighed_at kg i) same

next_place : (i : ℕ) → suc i ≡ i + 1
next_place i = omega arith

pub reweighs : Reweighs
reweighs ship at number ops i kg legal load =
    let there = load_there ops i load in
    let item : Item = there.0 in
    let is = weighed_is kg ops i (Lift (Load item)) there.1 in
    let all = set_weighs ship kg at ops i item number legal there.1 in
    let cell : Some item.cell ≡ loaded_at ops i = sym (ap (option_and_then loaded_cell) there.1) in (
      ap (first_fault ship at number) is ∙ all.0,
      record {
        before = ap (λ l. take i (steps_of ship at l)) is ∙ all.1;
        load = ap (λ l. slice_get (steps_of ship at l) i) is ∙ all.2;
        behind = (λ j. drop (sym (next_place i) j) (steps_of ship at (is j))) ∙ all.3
            ∙ (λ j. steps_weighed kg (cell j) (drop (next_place i j) ops) (drop (next_place i j) (steps_of ship at ops)));
      },
    )

-- the list is as long as it was
pub as_long : (kg : ℕ) (ops : List operation.Op) (i : ℕ) → length (weighed_at kg i ops) ≡ length ops
as_long kg ops i = by_step (slice_get ops i) where
  by_step : (o : Option operation.Op) → length (with_step ops i (option_map (reweighed kg) o)) ≡ length ops
  by_step None = refl
  by_step (Some op) = length-set ops i (reweighed kg op)

-- a sequence without a fault isn't too long, and has no step with one
pub none_of_both : (b : Bool) (f : SeqFault) (o : Option SeqFault) → (if b then Some f else o) ≡ None → (b ≡ false) × (o ≡ None)
none_of_both true f o h = absurd (none-some f (sym h))
none_of_both false f o h = (refl, h)

pub reweighs_sequences : ReweighsSequences
reweighs_sequences ship at ops i kg legal load =
    let too_many : SeqFault = fault_at 120001 TooManySteps in
    let both = none_of_both (nat_lt 120000 (length ops)) too_many (first_fault ship at 1 ops) legal in
    let few : nat_lt 120000 (length (weighed_at kg i ops)) ≡ false = ap (λ n. nat_lt 120000 n) (as_long kg ops i) ∙ both.0 in
    let rest = (reweighs ship at 1 ops i kg both.1 load).0 in
    λ j. if few j then Some too_many else rest j

-- two lists that are one before a place, at it and behind it are one
module _ {X : Type 0} where
  abbrev tail : List X → List X
  tail [] = []
  tail (x ∷ xs) = xs

  abbrev first : X → List X → X
  first d [] = d
  first d (x ∷ xs) = x

  pub parts_same : (xs ys : List X) (i : ℕ) → take i xs ≡ take i ys → slice_get xs i ≡ slice_get ys i → drop (suc i) xs ≡ drop (suc i) ys → xs ≡ ys
  parts_same [] [] i before here behind = refl
  parts_same [] (y ∷ ys) zero before here behind = absurd (none-some y here)
  parts_same [] (y ∷ ys) (suc i) before here behind = absurd (cc)
  parts_same (x ∷ xs) [] zero before here behind = absurd (none-some x (sym here))
  parts_same (x ∷ xs) [] (suc i) before here behind = absurd (cc)
  parts_same (x ∷ xs) (y ∷ ys) zero before here behind = λ j. same_Some x y here j ∷ behind j
  parts_same (x ∷ xs) (y ∷ ys) (suc i) before here behind =
      let rest = parts_same xs ys i (ap tail before) here behind in
      λ j. ap (first x) before j ∷ rest j

pub reweighed_once : AreReweighedOnce
reweighed_once kg i ops old one other a b =
    parts_same one other i (a.before ∙ sym b.before) (a.load ∙ sym b.load)
    (ap (λ n. drop n one) (next_place i) ∙ a.behind ∙ sym b.behind ∙ ap (λ n. drop n other) (sym (next_place i)))

-- what a sequence is once its load has another weight
pub still_legal : (ship : ProfileRecord) (at : Aboard) (kg i : ℕ) (ops weighed : List operation.Op) → IsLoad ops i → weighed ≡ weighed_at kg i ops
    → sequence_fault ship at ops ≡ None → sequence_fault ship at weighed ≡ None
still_legal ship at kg i ops weighed load is legal = ap (sequence_fault ship at) is ∙ reweighs_sequences ship at ops i kg legal load

pub still_done : (ship : ProfileRecord) (at : Aboard) (kg i : ℕ) (ops weighed : List operation.Op) (old steps : List Step) → IsLoad ops i → weighed ≡ weighed_at kg i ops
    → AreReweighed kg i ops old steps → sequence_fault ship at ops ≡ None → old ≡ steps_of ship at ops → steps ≡ steps_of ship at weighed
still_done ship at kg i ops weighed old steps load is are legal done =
    let first = (none_of_both (nat_lt 120000 (length ops)) (fault_at 120001 TooManySteps) (first_fault ship at 1 ops) legal).1 in
    let law : AreReweighed kg i ops (steps_of ship at ops) (steps_of ship at (weighed_at kg i ops)) = (reweighs ship at 1 ops i kg first load).1 in
    reweighed_once kg i ops (steps_of ship at ops) steps (steps_of ship at weighed) (subst (λ xs. AreReweighed kg i ops xs steps) done are)
    (subst (λ l. AreReweighed kg i ops (steps_of ship at ops) (steps_of ship at l)) (sym is) law)

-- the load's place is one of the list
pub load_within : (ops : List operation.Op) (i : ℕ) → IsLoad ops i → i < length ops
load_within ops i h = let there = load_there ops i h in slice_get_within ops i (Lift (Load there.0)) there.1
