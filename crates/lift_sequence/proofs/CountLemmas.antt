-- As many bodies as there is something aboard, and as many steps as rows.
use Rattle.std.proofs.Common.{◌≡◌, ℕ, zero, suc, ◌+◌, ◌<◌, ◌≤◌, ◌&&◌, List, [], ◌∷◌, ◌++◌, length, Bool, true, false, cond, nat_le, nat_lt, Option, None, Some, refl, sym, ap, ◌∙◌, arith, length-append}
use Rattle.std.specs.Prelude.{All, slice_get, if◌then◌else◌}
use Rattle.std.specs.List.{Contains, cons_option, filter, filter_map, flat_map, range_with_len}
use Rattle.std.specs.Map.{keys_of, lookup}
use Rattle.std.specs.Option.{is_some, option_map, option_to_list}
use Rattle.std.proofs.lemmas.List.{length-map}
use Rattle.std.proofs.lemmas.List.Elements.{All-cons, All-head, All-nil, All-tail, Contains-append_right}
use Rattle.std.proofs.lemmas.Option.{slice_get_past}
use Rattle.units_core.specs.declared.bodies.Place.{Place}
use Rattle.units_core.specs.declared.cells.Cell.{Cell}
use Rattle.units_core.specs.Bodies.{Mass}
use Rattle.units_core.specs.Cells.{cell_eq}
use Rattle.stow_messages.specs.declared.items.Item.{Item}
use Rattle.stow_messages.specs.declared.lifts.Lift as lift
use Rattle.stow_messages.specs.declared.step_rows.StepRow.{StepRow}
use Rattle.stow_messages.specs.declared.step_rows.StepRow.TheVariants as row
use Rattle.stow_messages.specs.Steps.{EachLiftOnce, is_lift}
use Rattle.ship_profile.specs.declared.fills.TankFill.{TankFill}
use Rattle.ship_profile.specs.Record.{ProfileRecord, place_of, tank_body}
use Rattle.lift_sequence.specs.declared.containers.Container.{Container}
use Rattle.lift_sequence.specs.declared.operations.Op.TheVariants.{Lift}
use Rattle.lift_sequence.specs.Aboard.{Aboard, container_of, nothing, with_cell}
use Rattle.lift_sequence.specs.Arrival.{arrival_bodies, arrival_fault, fills_fault, items_fault}
use Rattle.lift_sequence.specs.Bodies.{bodies, bodies_in_cells, bodies_in_tanks, body_in, fill_body, filling_in, item_body}
use Rattle.lift_sequence.specs.Legal.{over_fault, stand_fault}
use Rattle.lift_sequence.specs.Places.{HasLift, HasPlaces, filled_tanks, taken_cells}
use Rattle.lift_sequence.specs.Sequence.{lift_at, op_of, ops_of}
use Rattle.lift_sequence.proofs.Listings.{cells_same}
use Rattle.lift_sequence.proofs.PlaceLemmas.{has_body, has_place, neither}
use Rattle.lift_sequence.proofs.States.{none_first}

-- what gives something keeps its place in the list
kept : {X Y : Type 0} (h : X → Option Y) (x : X) (xs : List X) → is_some (h x) ≡ true → length (filter_map h xs) ≡ length xs → length (filter_map h (x ∷ xs)) ≡ suc (length xs)
kept {Y = Y} h x xs there more = by_case (h x) there where
  by_case : (o : Option Y) → is_some o ≡ true → length (cons_option o (filter_map h xs)) ≡ suc (length xs)
  by_case None e = absurd (cc)
  by_case (Some y) e = ap suc more

stands_somewhere : (place : Option Place) (c : Container) → is_some place ≡ true → is_some (body_in place (Some c)) ≡ true
stands_somewhere None c h = h
stands_somewhere (Some place) c h = refl

module _ (ship : ProfileRecord) where
  items_kept : (at : Aboard) (number : ℕ) (items : List Item) → items_fault ship at number items ≡ None → length (filter_map (item_body ship) items) ≡ length items
  items_kept at number [] legal = refl
  items_kept at number (item ∷ more) legal =
      let next = with_cell at item.cell (Some (container_of item)) in
      let parts = none_first number (stand_fault ship at item.cell) (items_fault ship next (number + 1) more) legal in
      kept (item_body ship) item more (stands_somewhere (place_of ship item.cell) (container_of item) (has_place ship at item.cell parts.0))
      (items_kept next (number + 1) more parts.1)

  fills_kept : (number : ℕ) (fills : List TankFill) → fills_fault ship number fills ≡ None → length (filter_map (fill_body ship) fills) ≡ length fills
  fills_kept number [] legal = refl
  fills_kept number (fill ∷ more) legal =
      let parts = none_first number (over_fault (fill_body ship fill)) (fills_fault ship (number + 1) more) legal in
      kept (fill_body ship) fill more (has_body (fill_body ship fill) parts.0) (fills_kept (number + 1) more parts.1)

  pub arrival_kept : (items : List Item) (fills : List TankFill) → arrival_fault ship items fills ≡ None
      → length (arrival_bodies ship items fills) ≡ length ship.ship.blocks + (length fills + length items)
  arrival_kept items fills legal =
      let parts = neither (items_fault ship nothing 1 items) (fills_fault ship 1 fills) legal in
      omega (
        arith,
        length-append ship.ship.blocks (filter_map (fill_body ship) fills ++ filter_map (item_body ship) items),
        length-append (filter_map (fill_body ship) fills) (filter_map (item_body ship) items),
        items_kept nothing 1 items parts.0,
        fills_kept 1 fills parts.1,
      )

  cells_counted : (cells : Cell → Option Container) (es : List (Cell × Place))
      → length (flat_map (λ (e : Cell × Place). option_to_list (body_in (Some e.1) (cells e.0))) es) ≡ length (filter (λ cell. is_some (cells cell)) (keys_of es))
  cells_counted cells [] = refl
  cells_counted cells (e ∷ es) = by_case (cells e.0) (cells_counted cells es) where
    bodies_behind : List Mass
    bodies_behind = flat_map (λ (e : Cell × Place). option_to_list (body_in (Some e.1) (cells e.0))) es

    taken_behind : List Cell
    taken_behind = filter (λ cell. is_some (cells cell)) (keys_of es)

    by_case : (o : Option Container) → length bodies_behind ≡ length taken_behind
        → length (option_to_list (body_in (Some e.1) o) ++ bodies_behind) ≡ length (cond (is_some o) (e.0 ∷ taken_behind) taken_behind)
    by_case None more = more
    by_case (Some c) more = ap suc more

  tanks_counted : (tanks : ℕ → Option ℕ) (ts : List ℕ) → ((tank kg : ℕ) → tanks tank ≡ Some kg → is_some (tank_body ship tank kg) ≡ true)
      → length (flat_map (λ tank. option_to_list (filling_in ship tank (tanks tank))) ts) ≡ length (filter (λ tank. is_some (tanks tank)) ts)
  tanks_counted tanks [] holds = refl
  tanks_counted tanks (t ∷ ts) holds = by_case (tanks t) refl (tanks_counted tanks ts holds) where
    bodies_behind : List Mass
    bodies_behind = flat_map (λ tank. option_to_list (filling_in ship tank (tanks tank))) ts

    filled_behind : List ℕ
    filled_behind = filter (λ tank. is_some (tanks tank)) ts

    one : (body : Option Mass) → is_some body ≡ true → length bodies_behind ≡ length filled_behind → length (option_to_list body ++ bodies_behind) ≡ suc (length filled_behind)
    one None there more = absurd (cc)
    one (Some body) there more = ap suc more

    by_case : (o : Option ℕ) → tanks t ≡ o → length bodies_behind ≡ length filled_behind
        → length (option_to_list (filling_in ship t o) ++ bodies_behind) ≡ length (cond (is_some o) (t ∷ filled_behind) filled_behind)
    by_case None e more = more
    by_case (Some kg) e more = one (tank_body ship t kg) (holds t kg e) more

  pub aboard_kept : (at : Aboard) → HasPlaces ship at → length (bodies ship at) ≡ length ship.ship.blocks + (length (filled_tanks ship at) + length (taken_cells ship at))
  aboard_kept at places =
      omega (
        arith,
        length-append ship.ship.blocks (bodies_in_tanks ship at.tanks ++ bodies_in_cells ship at.cells),
        length-append (bodies_in_tanks ship at.tanks) (bodies_in_cells ship at.cells),
        cells_counted at.cells ship.tables.cells,
        tanks_counted at.tanks (range_with_len 0 (length ship.tables.tanks)) places.tanks,
      )

-- what is kept behind an element is kept in the whole list
kept_behind : {X : Type 0} (x y : X) (xs : List X) (b : Bool) → Contains xs y → Contains (cond b (x ∷ xs) xs) y
kept_behind x y xs true h = Contains-append_right (x ∷ []) xs y h
kept_behind x y xs false h = h

kept_first : {X : Type 0} (x y : X) (xs : List X) (b : Bool) → y ≡ x → b ≡ true → Contains (cond b (x ∷ xs) xs) y
kept_first x y xs true same h = (zero, omega arith, sym same)
kept_first x y xs false same h = absurd (cc)

cell_kept : (cells : Cell → Option Container) (es : List (Cell × Place)) (cell : Cell) → is_some (cells cell) ≡ true → is_some (lookup (cell_eq cell) es) ≡ true
    → Contains (filter (λ c. is_some (cells c)) (keys_of es)) cell
cell_kept cells [] cell taken h = absurd (cc)
cell_kept cells (e ∷ es) cell taken h = by_first (cell_eq cell e.0) refl (cell_kept cells es cell taken) h where
  behind : List Cell
  behind = filter (λ c. is_some (cells c)) (keys_of es)

  by_first : (b : Bool) → cell_eq cell e.0 ≡ b → (is_some (lookup (cell_eq cell) es) ≡ true → Contains behind cell)
      → is_some (cond b (Some e.1) (lookup (cell_eq cell) es)) ≡ true → Contains (cond (is_some (cells e.0)) (e.0 ∷ behind) behind) cell
  by_first true t more k =
      let same = cells_same cell e.0 t in
      kept_first e.0 cell behind (is_some (cells e.0)) same (ap (λ c. is_some (cells c)) (sym same) ∙ taken)
  by_first false t more k = kept_behind e.0 cell behind (is_some (cells e.0)) (more k)

pub taken_kept : (ship : ProfileRecord) (at : Aboard) (cell : Cell) → HasPlaces ship at → is_some (at.cells cell) ≡ true → Contains (taken_cells ship at) cell
taken_kept ship at cell places taken = cell_kept at.cells ship.tables.cells cell taken (places.cells cell taken)

tank_kept : (tanks : ℕ → Option ℕ) (a n tank : ℕ) → a ≤ tank → tank < a + n → is_some (tanks tank) ≡ true → Contains (filter (λ t. is_some (tanks t)) (range_with_len a n)) tank
tank_kept tanks a zero tank low high filled = absurd (omega arith)
tank_kept tanks a (suc n) tank low high filled = by_first (nat_le tank a) refl (tank_kept tanks (a + 1) n tank) where
  behind : List ℕ
  behind = filter (λ t. is_some (tanks t)) (range_with_len (a + 1) n)

  by_first : (b : Bool) → nat_le tank a ≡ b → (a + 1 ≤ tank → tank < (a + 1) + n → is_some (tanks tank) ≡ true → Contains behind tank)
      → Contains (cond (is_some (tanks a)) (a ∷ behind) behind) tank
  by_first true t more =
      let most : tank ≤ a = grind (arith, t) in
      let same : tank ≡ a = omega arith in
      kept_first a tank behind (is_some (tanks a)) same (ap (λ k. is_some (tanks k)) (sym same) ∙ filled)
  by_first false t more = kept_behind a tank behind (is_some (tanks a)) (more (grind (arith, t)) (omega arith) filled)

tank_there : (ship : ProfileRecord) (tank kg : ℕ) → is_some (tank_body ship tank kg) ≡ true → (b : Bool) → nat_lt tank (length ship.tables.tanks) ≡ b → tank < length ship.tables.tanks
tank_there ship tank kg h true t = grind (arith, t)
tank_there ship tank kg h false t =
    let past : slice_get ship.tables.tanks tank ≡ None = slice_get_past ship.tables.tanks tank (grind (arith, t)) in
    let none = rw past at h in
    absurd (cc none)

pub filled_kept : (ship : ProfileRecord) (at : Aboard) (tank kg : ℕ) → HasPlaces ship at → at.tanks tank ≡ Some kg → Contains (filled_tanks ship at) tank
filled_kept ship at tank kg places filled =
    let high = tank_there ship tank kg (places.tanks tank kg filled) (nat_lt tank (length ship.tables.tanks)) refl in
    tank_kept at.tanks 0 (length ship.tables.tanks) tank (omega arith) (omega (arith, high)) (ap is_some filled)

there : {X : Type 0} (xs : List X) (k : ℕ) → k < length xs → is_some (slice_get xs k) ≡ true
there [] k h = absurd (omega arith)
there (x ∷ xs) zero h = refl
there (x ∷ xs) (suc k) h = there xs k (omega arith)

mapped : {X Y : Type 0} (f : X → Y) (o : Option X) → is_some o ≡ true → is_some (option_map f o) ≡ true
mapped f None h = h
mapped f (Some x) h = refl

lift_there : (lifts : List lift.Lift) (n : ℕ) → 1 ≤ n → n ≤ length lifts → is_some (lift_at lifts n) ≡ true
lift_there lifts zero low high = absurd (omega arith)
lift_there lifts (suc n) low high = there lifts n (omega arith)

ordered : (lifts : List lift.Lift) (r : StepRow) → HasLift lifts r → is_some (op_of lifts r) ≡ true
ordered lifts (row.Lift n) h = mapped Lift (lift_at lifts n) (lift_there lifts n h.0 h.1)
ordered lifts (row.Tank name kg) h = refl
ordered lifts (row.Restow from to id) h = refl

pub rows_kept : (lifts : List lift.Lift) (rows : List StepRow) → All (HasLift lifts) rows → length (ops_of lifts (Some rows)) ≡ length rows
rows_kept lifts [] h = refl
rows_kept lifts (r ∷ rows) h =
    kept (op_of lifts) r rows (ordered lifts r (All-head (HasLift lifts) r rows h)) (rows_kept lifts rows (All-tail (HasLift lifts) r rows h))

pub lifts_kept : (lifts : List lift.Lift) → length (ops_of lifts None) ≡ length lifts
lifts_kept lifts = length-map lifts Lift

-- no row is of a lift that isn't there
abbrev NoneBeyond : ℕ → List StepRow → Type 0
NoneBeyond lifts rows = (n : ℕ) → (nat_le 1 n && nat_le n lifts) ≡ false → length (filter (is_lift n) rows) ≡ 0

beyond_first : (lifts : ℕ) (r : StepRow) (rows : List StepRow) → NoneBeyond lifts (r ∷ rows) → (n : ℕ) → (nat_le 1 n && nat_le n lifts) ≡ false → is_lift n r ≡ false
beyond_first lifts r rows none n beyond = by_case (is_lift n r) (none n beyond) where
  by_case : (b : Bool) → length (cond b (r ∷ filter (is_lift n) rows) (filter (is_lift n) rows)) ≡ 0 → b ≡ false
  by_case true h = absurd (omega arith)
  by_case false h = refl

beyond_rest : (lifts : ℕ) (r : StepRow) (rows : List StepRow) → NoneBeyond lifts (r ∷ rows) → NoneBeyond lifts rows
beyond_rest lifts r rows none n beyond =
    ap (λ (b : Bool). length (cond b (r ∷ filter (is_lift n) rows) (filter (is_lift n) rows))) (sym (beyond_first lifts r rows none n beyond)) ∙ none n beyond

is_itself : (n : ℕ) (name : StepRow) → is_lift n (row.Lift n) ≡ true
is_itself n name = grind arith

has_lift : (lifts : List lift.Lift) (r : StepRow) → ((n : ℕ) → (nat_le 1 n && nat_le n (length lifts)) ≡ false → is_lift n r ≡ false) → HasLift lifts r
has_lift lifts (row.Lift n) h = by_case (nat_le 1 n && nat_le n (length lifts)) refl where
  by_case : (b : Bool) → (nat_le 1 n && nat_le n (length lifts)) ≡ b → (1 ≤ n) × (n ≤ length lifts)
  by_case true e = (grind (arith, e), grind (arith, e))
  by_case false e =
      let itself = is_itself n (row.Lift n) in
      let other = h n e in
      absurd (cc (itself, other))
has_lift lifts other h = tt

each_has_lift : (lifts : List lift.Lift) (rows : List StepRow) → NoneBeyond (length lifts) rows → All (HasLift lifts) rows
each_has_lift lifts [] none = All-nil (HasLift lifts)
each_has_lift lifts (r ∷ rows) none =
    All-cons (HasLift lifts) r rows (has_lift lifts r (beyond_first (length lifts) r rows none)) (each_has_lift lifts rows (beyond_rest (length lifts) r rows none))

pub once_has_lift : (lifts : List lift.Lift) (rows : List StepRow) → EachLiftOnce (length lifts) rows → All (HasLift lifts) rows
once_has_lift lifts rows once = each_has_lift lifts rows (λ n beyond. once n ∙ ap (λ (b : Bool). if b then 1 else 0) beyond)
