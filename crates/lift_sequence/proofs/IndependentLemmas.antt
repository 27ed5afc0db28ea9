-- Two steps that are independent of each other can be done in either order.
use Rattle.std.proofs.Common.{◌≡◌, ℕ, ◌+◌, ◌-◌, ◌%◌, ◌&&◌, inl, inr, not, List, [], ◌∷◌, get_or, Option, None, Some, Bool, true, false, cond, nat_eq, nat_le, refl, sym, ap, ◌∙◌, arith, eq-eqb, eqb-true}
use Rattle.std.specs.Prelude.{find, if◌then◌else◌, position}
use Rattle.std.specs.List.{range_with_len}
use Rattle.std.specs.Map.{update}
use Rattle.std.specs.Option.{is_some, is_none, option_map, option_or}
use Rattle.std.specs.Str.{bytes_eq}
use Rattle.std.proofs.lemmas.Slice.Eq.{bytes_eq-Decides}
use Rattle.std.proofs.lemmas.List.Quantifiers.{position-Some}
use Rattle.units_core.specs.declared.cells.Cell.{Cell}
use Rattle.units_core.specs.Cells.{Conflicts, cell_eq, meet, span_of}
use Rattle.stow_messages.specs.declared.lifts.Lift.TheVariants.{Load, Discharge}
use Rattle.ship_profile.specs.Record.{ProfileRecord, place_of, tank_of, tank_body}
use Rattle.lift_sequence.specs.declared.containers.Container.{Container}
use Rattle.lift_sequence.specs.declared.faults.SeqCode.TheVariants.{UnknownCell}
use Rattle.lift_sequence.specs.declared.operations.Op as operation
use Rattle.lift_sequence.specs.declared.operations.Op.TheVariants.{Lift, Fill, Restow}
use Rattle.lift_sequence.specs.Aboard.{Aboard, after_step, container_of, with_cell, with_tank}
use Rattle.lift_sequence.specs.Bodies.{body_in, filling_in, filling_step, step_of}
use Rattle.lift_sequence.specs.Independent.{AreIndependent, Commute, Fills, IndependentCommute, TellsIndependent, Touches, are_apart, are_independent, fills, leaves}
use Rattle.lift_sequence.specs.Legal.{fault_of, hold_fault, in_bay, is_rival, overlap, place_fault, stand_fault, take_fault}
use Rattle.lift_sequence.proofs.FollowLemmas.{either_first, turned_round}
use Rattle.lift_sequence.proofs.Listings.{cells_same}

-- cells that are apart are two, and are apart whichever is named first
meets_itself : (bay : ℕ) → meet bay bay ≡ true
meets_itself bay = by_test (nat_eq (bay % 2) 1) refl where
  by_test : (b : Bool) → nat_eq (bay % 2) 1 ≡ b → meet bay bay ≡ true
  by_test true e = let low : nat_le bay bay ≡ true = grind arith in rw (e, low) refl
  by_test false e = let low : nat_le (bay - 1) (bay + 1) ≡ true = grind arith in rw (e, low) refl

pub number_itself : (m : ℕ) → nat_eq m m ≡ true
number_itself m = grind arith

meets_room : (a : Cell) → are_apart a a ≡ false
meets_room a = rw (number_itself a.row, number_itself a.tier, meets_itself a.bay) refl

pub two_cells : (a b : Cell) → are_apart a b ≡ true → cell_eq a b ≡ false
two_cells a b h = by_test (cell_eq a b) refl where
  by_test : (t : Bool) → cell_eq a b ≡ t → cell_eq a b ≡ false
  by_test true is = absurd (clash (sym h ∙ ap (λ c. are_apart a c) (sym (cells_same a b is)) ∙ meets_room a)) where
    clash : true ≡ false → ⊥
    clash z = cc
  by_test false is = is

and_turned : (a b : Bool) → (a && b) ≡ (b && a)
and_turned true true = refl
and_turned true false = refl
and_turned false true = refl
and_turned false false = refl

pub apart_turned : (a b : Cell) → are_apart a b ≡ are_apart b a
apart_turned a b =
    let row : nat_eq a.row b.row ≡ nat_eq b.row a.row = grind arith in
    let tier : nat_eq a.tier b.tier ≡ nat_eq b.tier a.tier = grind arith in
    let bays : meet a.bay b.bay ≡ meet b.bay a.bay = and_turned (nat_le (span_of a.bay).0 (span_of b.bay).1) (nat_le (span_of b.bay).0 (span_of a.bay).1) in
    λ i. not (row i && (tier i && bays i))

-- what is put into a cell is no rival of one that is apart from it
module _ (f : Cell → Option Container) (c d : Cell) (v : Option Container) (away : are_apart c d ≡ true) where
  not_both : (a b : Bool) → not (true && (true && b)) ≡ true → (a && b) ≡ false
  not_both true true h = cc
  not_both true false h = refl
  not_both false b h = refl

  beside : (bay : ℕ) → cell_eq c (in_bay d bay) ≡ true → meet bay d.bay ≡ false
  beside bay is =
      let same : are_apart (in_bay d bay) d ≡ true = ap (λ q. are_apart q d) (sym (cells_same c (in_bay d bay) is)) ∙ away in
      let row : nat_eq d.row d.row ≡ true = number_itself d.row in
      let tier : nat_eq d.tier d.tier ≡ true = number_itself d.tier in
      not_both true (meet bay d.bay) (sym (λ i. not (row i && (tier i && meet bay d.bay))) ∙ same)

  and_false : (a b : Bool) → b ≡ false → (a && b) ≡ false
  and_false true b h = h
  and_false false b h = refl

  rival_same : (bay : ℕ) → is_rival (update cell_eq f c v) d bay ≡ is_rival f d bay
  rival_same bay = by_test (cell_eq c (in_bay d bay)) refl where
    by_test : (t : Bool) → cell_eq c (in_bay d bay) ≡ t → (is_some (cond t v (f (in_bay d bay))) && meet bay d.bay) ≡ (is_some (f (in_bay d bay)) && meet bay d.bay)
    by_test true is = and_false (is_some v) (meet bay d.bay) (beside bay is) ∙ sym (and_false (is_some (f (in_bay d bay))) (meet bay d.bay) (beside bay is))
    by_test false is = refl

  search_same : (bays : List ℕ) → find (is_rival (update cell_eq f c v) d) bays ≡ find (is_rival f d) bays
  search_same bays = λ i. find (λ bay. rival_same bay i) bays

  overlap_same : overlap (update cell_eq f c v) d ≡ overlap f d
  unfolding overlap
  overlap_same = ap (option_map (in_bay d)) (search_same (range_with_len 0 1000))

  other_stays : update cell_eq f c v d ≡ f d
  other_stays = ap (λ b. cond b v (f d)) (two_cells c d away)

-- two tanks are two, and either may be filled first
pub tank_first : (f : ℕ → Option ℕ) (a b : ℕ) (x y : Option ℕ) → nat_eq a b ≡ false
    → update nat_eq (update nat_eq f a x) b y ≡ update nat_eq (update nat_eq f b y) a x
tank_first f a b x y apart = λ i q. at q (nat_eq a q) refl (nat_eq b q) refl i where
  clash : true ≡ false → ⊥
  clash z = cc

  at : (q : ℕ) (m : Bool) → nat_eq a q ≡ m → (n : Bool) → nat_eq b q ≡ n
      → cond (nat_eq b q) y (cond (nat_eq a q) x (f q)) ≡ cond (nat_eq a q) x (cond (nat_eq b q) y (f q))
  at q true e true h = absurd (clash (sym (ap (λ z. nat_eq a z) (eqb-true b q h) ∙ e) ∙ apart))
  at q true e false h = rw (e, h) refl
  at q false e true h = rw (e, h) refl
  at q false e false h = rw (e, h) refl

-- a tank has one name
module _ {X : Type 0} (name_of : X → List ℕ) where
  named_at : (a : List ℕ) (xs : List X) (d : X) (i : ℕ) → position (λ x. bytes_eq a (name_of x)) xs ≡ Some i → a ≡ name_of (get_or xs i d)
  named_at a xs d i h = (bytes_eq-Decides a (name_of (get_or xs i d))).0 (position-Some (λ x. bytes_eq a (name_of x)) xs i d h).1

  pub one_name : (a b : List ℕ) (xs : List X) (i : ℕ) → position (λ x. bytes_eq a (name_of x)) xs ≡ Some i → position (λ x. bytes_eq b (name_of x)) xs ≡ Some i → a ≡ b
  one_name a b [] i h k = cc
  one_name a b (x ∷ xs) i h k = named_at a (x ∷ xs) x i h ∙ sym (named_at b (x ∷ xs) x i k)

-- cells that are apart are those that don't conflict
not_apart : (a b : Cell) → Conflicts a b → are_apart a b ≡ false
not_apart a b c = let row : nat_eq a.row b.row ≡ true = eq-eqb a.row b.row c.row in
    let tier : nat_eq a.tier b.tier ≡ true = eq-eqb a.tier b.tier c.tier in
    λ i. not (row i && (tier i && c.bays i))

no_conflict : (a b : Cell) → are_apart a b ≡ true → Conflicts a b → ⊥
no_conflict a b h c = clash (sym h ∙ not_apart a b c) where
  clash : true ≡ false → ⊥
  clash z = cc

away : (a b : Cell) → (Conflicts a b → ⊥) → are_apart a b ≡ true
away a b none = by_tests (nat_eq a.row b.row) refl (nat_eq a.tier b.tier) refl (meet a.bay b.bay) refl where
  by_tests : (r : Bool) → nat_eq a.row b.row ≡ r → (t : Bool) → nat_eq a.tier b.tier ≡ t → (m : Bool) → meet a.bay b.bay ≡ m → not (r && (t && m)) ≡ true
  by_tests true r true t true m = absurd (none (record { row = eqb-true a.row b.row r; tier = eqb-true a.tier b.tier t; bays = m }))
  by_tests true r true t false m = refl
  by_tests true r false t k m = refl
  by_tests false r l t k m = refl

conflicts_turned : (a b : Cell) → Conflicts a b → Conflicts b a
conflicts_turned a b c = record {
  row = sym c.row;
  tier = sym c.tier;
  bays = and_turned (nat_le (span_of b.bay).0 (span_of a.bay).1) (nat_le (span_of a.bay).0 (span_of b.bay).1) ∙ c.bays;
}

pub turned : (a b : operation.Op) → AreIndependent a b → AreIndependent b a
turned a b h = record { cells = λ c d p q k. h.cells d c q p (conflicts_turned c d k); tanks = λ name p q. h.tanks name q p }

pub both_true : (a b : Bool) → (a && b) ≡ true → (a ≡ true) × (b ≡ true)
both_true true b h = (refl, h)
both_true false b h = absurd (cc)

left_apart : (b : operation.Op) (c d : Cell) → leaves b c ≡ true → Touches b d → are_apart c d ≡ true
left_apart (Lift (Load item)) c d h t = apart_turned c d ∙ ap (λ q. are_apart q c) (sym t) ∙ h
left_apart (Lift (Discharge cell id)) c d h t = apart_turned c d ∙ ap (λ q. are_apart q c) (sym t) ∙ h
left_apart (Fill name kg) c d h t = absurd t
left_apart (Restow from to id) c d h (inl t) = apart_turned c d ∙ ap (λ q. are_apart q c) (sym t) ∙ (both_true (are_apart from c) (are_apart to c) h).0
left_apart (Restow from to id) c d h (inr t) = apart_turned c d ∙ ap (λ q. are_apart q c) (sym t) ∙ (both_true (are_apart from c) (are_apart to c) h).1

leaves_each : (a b : operation.Op) (c : Cell) → are_independent a b ≡ true → Touches a c → leaves b c ≡ true
leaves_each (Lift (Load item)) b c h t = ap (leaves b) (sym t) ∙ h
leaves_each (Lift (Discharge cell id)) b c h t = ap (leaves b) (sym t) ∙ h
leaves_each (Fill name kg) b c h t = absurd t
leaves_each (Restow from to id) b c h (inl t) = ap (leaves b) (sym t) ∙ (both_true (leaves b from) (leaves b to) h).0
leaves_each (Restow from to id) b c h (inr t) = ap (leaves b) (sym t) ∙ (both_true (leaves b from) (leaves b to) h).1

not_filled : (name other : List ℕ) → not (bytes_eq other name) ≡ true → other ≡ name → ⊥
not_filled name other h e = clash (sym (ap not ((bytes_eq-Decides other name).1 e)) ∙ h) where
  clash : false ≡ true → ⊥
  clash z = cc

other_tank : (a b : operation.Op) (name : List ℕ) → are_independent a b ≡ true → Fills a name → Fills b name → ⊥
other_tank (Lift lift) b name h p q = p
other_tank (Restow from to id) b name h p q = p
other_tank (Fill one kg) (Lift lift) name h p q = q
other_tank (Fill one kg) (Restow from to id) name h p q = q
other_tank (Fill one kg) (Fill other mass) name h p q = not_filled one.items other.items h (q ∙ sym p)

pub independent_means : (a b : operation.Op) → are_independent a b ≡ true → AreIndependent a b
independent_means a b h = record {
  cells = λ c d p q. no_conflict c d (left_apart b c d (leaves_each a b c h p) q);
  tanks = λ name p q. other_tank a b name h p q;
}

-- and the other way
both_are : (a b : Bool) → a ≡ true → b ≡ true → (a && b) ≡ true
both_are a b h k = rw (h, k) refl

leaves_of : (b : operation.Op) (c : Cell) → ((d : Cell) → Touches b d → Conflicts c d → ⊥) → leaves b c ≡ true
leaves_of (Lift (Load item)) c h = apart_turned item.cell c ∙ away c item.cell (h item.cell refl)
leaves_of (Lift (Discharge cell id)) c h = apart_turned cell c ∙ away c cell (h cell refl)
leaves_of (Fill name kg) c h = refl
leaves_of (Restow from to id) c h =
    both_are (are_apart from c) (are_apart to c) (apart_turned from c ∙ away c from (h from (inl refl))) (apart_turned to c ∙ away c to (h to (inr refl)))

no_tank : (b : operation.Op) (name : List ℕ) → (Fills b name → ⊥) → not (fills b name) ≡ true
no_tank (Lift lift) name h = refl
no_tank (Restow from to id) name h = refl
no_tank (Fill other kg) name h = by_test (bytes_eq other.items name) refl where
  by_test : (t : Bool) → bytes_eq other.items name ≡ t → not t ≡ true
  by_test true e = absurd (h ((bytes_eq-Decides other.items name).0 e))
  by_test false e = refl

means_independent : (a b : operation.Op) → AreIndependent a b → are_independent a b ≡ true
means_independent (Lift (Load item)) b h = leaves_of b item.cell (λ d t. h.cells item.cell d refl t)
means_independent (Lift (Discharge cell id)) b h = leaves_of b cell (λ d t. h.cells cell d refl t)
means_independent (Fill name kg) b h = no_tank b name.items (λ t. h.tanks name.items refl t)
means_independent (Restow from to id) b h =
    both_are (leaves b from) (leaves b to) (leaves_of b from (λ d t. h.cells from d (inl refl) t)) (leaves_of b to (λ d t. h.cells to d (inr refl) t))

pub tells_independent : TellsIndependent
tells_independent a b = (independent_means a b, means_independent a b)

module _ (ship : ProfileRecord) where
  -- what is written into a cell that is apart from a step's doesn't concern it
  module _ (c d : Cell) (away : are_apart c d ≡ true) where
    stand_same : (at : Aboard) (v : Option Container) → stand_fault ship (with_cell at c v) d ≡ stand_fault ship at d
    stand_same at v = λ i. place_fault (place_of ship d) (is_some (other_stays at.cells c d v away i)) (overlap_same at.cells c d v away i)

    take_same : (at : Aboard) (v : Option Container) (id : List ℕ) → take_fault ship (with_cell at c v) d id ≡ take_fault ship at d id
    take_same at v id = λ i. if is_none (place_of ship d) then Some UnknownCell else hold_fault id (other_stays at.cells c d v away i)

    body_same : (at : Aboard) (v : Option Container) (cell : Cell) → body_in (place_of ship cell) ((with_cell at c v).cells d) ≡ body_in (place_of ship cell) (at.cells d)
    body_same at v cell = λ i. body_in (place_of ship cell) (other_stays at.cells c d v away i)

    write_first : (at : Aboard) (v w : Option Container) → with_cell (with_cell at c v) d w ≡ with_cell (with_cell at d w) c v
    write_first at v w = λ i. record { cells = either_first at.cells c d v w (two_cells c d away) i; tanks = at.tanks }

    still_there : (at : Aboard) (w : Option Container) → (with_cell at d w).cells c ≡ at.cells c
    still_there at w = ap (λ b. cond b w (at.cells c)) (turned_round d c ∙ two_cells c d away)

  record IgnoresCell (op : operation.Op) (c : Cell) : Type 0 where
    fault : (at : Aboard) (v : Option Container) → fault_of ship (with_cell at c v) op ≡ fault_of ship at op
    step : (at : Aboard) (v : Option Container) → step_of ship (with_cell at c v) op ≡ step_of ship at op
    state : (at : Aboard) (v : Option Container) → after_step ship (with_cell at c v) op ≡ with_cell (after_step ship at op) c v
    keeps : (at : Aboard) → (after_step ship at op).cells c ≡ at.cells c

  filling_same : (at : Aboard) (c : Cell) (v : Option Container) (o : Option ℕ) (kg : ℕ) → filling_step ship (with_cell at c v) o kg ≡ filling_step ship at o kg
  filling_same at c v None kg = refl
  filling_same at c v (Some tank) kg = refl

  fill_first : (at : Aboard) (c : Cell) (v : Option Container) (o : Option ℕ) (kg : ℕ) → with_tank (with_cell at c v) o kg ≡ with_cell (with_tank at o kg) c v
  fill_first at c v None kg = refl
  fill_first at c v (Some tank) kg = refl

  cells_stay : (at : Aboard) (c : Cell) (o : Option ℕ) (kg : ℕ) → (with_tank at o kg).cells c ≡ at.cells c
  cells_stay at c None kg = refl
  cells_stay at c (Some tank) kg = refl

  ignores_cell : (op : operation.Op) (c : Cell) → ((d : Cell) → Touches op d → are_apart c d ≡ true) → IgnoresCell op c
  ignores_cell (Lift (Load item)) c h =
      let away = h item.cell refl in
      record {
        fault = λ at v. stand_same c item.cell away at v;
        step = λ at v. refl;
        state = λ at v. write_first c item.cell away at v (Some (container_of item));
        keeps = λ at. still_there c item.cell away at (Some (container_of item));
      }
  ignores_cell (Lift (Discharge cell id)) c h =
      let away = h cell refl in
      record {
        fault = λ at v. take_same c cell away at v id.items;
        step = λ at v. λ i. record { out = body_same c cell away at v cell i; put = None };
        state = λ at v. write_first c cell away at v None;
        keeps = λ at. still_there c cell away at None;
      }
  ignores_cell (Fill name kg) c h = record {
    fault = λ at v. refl;
    step = λ at v. filling_same at c v (tank_of ship name.items) kg;
    state = λ at v. fill_first at c v (tank_of ship name.items) kg;
    keeps = λ at. cells_stay at c (tank_of ship name.items) kg;
  }
  ignores_cell (Restow from to id) c h =
      let one = h from (inl refl) in
      let two = h to (inr refl) in
      record {
        fault = λ at v. λ i. option_or (take_same c from one at v id.items i)
            ((ap (λ (a : Aboard). stand_fault ship a to) (write_first c from one at v None) ∙ stand_same c to two (with_cell at from None) v) i);
        step = λ at v. λ i. record { out = body_same c from one at v from i; put = body_same c from one at v to i };
        state = λ at v. (λ i. with_cell (write_first c from one at v None i) to (other_stays at.cells c from v one i))
            ∙ write_first c to two (with_cell at from None) v (at.cells from);
        keeps = λ at. still_there c to two (with_cell at from None) (at.cells from) ∙ still_there c from one at None;
      }

  -- nor does what is filled into another tank
  record IgnoresTank (op : operation.Op) (o : Option ℕ) : Type 0 where
    fault : (at : Aboard) (kg : ℕ) → fault_of ship (with_tank at o kg) op ≡ fault_of ship at op
    step : (at : Aboard) (kg : ℕ) → step_of ship (with_tank at o kg) op ≡ step_of ship at op
    state : (at : Aboard) (kg : ℕ) → after_step ship (with_tank at o kg) op ≡ with_tank (after_step ship at op) o kg

  other_filling : (at : Aboard) (tank kg : ℕ) (o : Option ℕ) (mass : ℕ) → (o ≡ Some tank → ⊥)
      → (filling_step ship (with_tank at (Some tank) kg) o mass ≡ filling_step ship at o mass)
      × (with_tank (with_tank at (Some tank) kg) o mass ≡ with_tank (with_tank at o mass) (Some tank) kg)
  other_filling at tank kg None mass apart = (refl, refl)
  other_filling at tank kg (Some other) mass apart =
      let two : nat_eq tank other ≡ false = by_test (nat_eq tank other) refl in (
        λ i. record { out = filling_in ship other (cond (two i) (Some kg) (at.tanks other)); put = tank_body ship other mass },
        λ i. record { cells = at.cells; tanks = tank_first at.tanks tank other (Some kg) (Some mass) two i },
      ) where
        by_test : (t : Bool) → nat_eq tank other ≡ t → nat_eq tank other ≡ false
        by_test true is = absurd (apart (ap (λ n. Some n) (sym (eqb-true tank other is))))
        by_test false is = is

  ignores_tank : (op : operation.Op) (o : Option ℕ) → ((name : List ℕ) (tank : ℕ) → Fills op name → o ≡ Some tank → tank_of ship name ≡ Some tank → ⊥) → IgnoresTank op o
  ignores_tank op None h = record { fault = λ at kg. refl; step = λ at kg. refl; state = λ at kg. refl }
  ignores_tank (Lift (Load item)) (Some tank) h = record { fault = λ at kg. refl; step = λ at kg. refl; state = λ at kg. refl }
  ignores_tank (Lift (Discharge cell id)) (Some tank) h = record { fault = λ at kg. refl; step = λ at kg. refl; state = λ at kg. refl }
  ignores_tank (Restow from to id) (Some tank) h = record { fault = λ at kg. refl; step = λ at kg. refl; state = λ at kg. refl }
  ignores_tank (Fill name mass) (Some tank) h = record {
    fault = λ at kg. refl;
    step = λ at kg. (other_filling at tank kg (tank_of ship name.items) mass (h name.items tank refl refl)).0;
    state = λ at kg. (other_filling at tank kg (tank_of ship name.items) mass (h name.items tank refl refl)).1;
  }

  -- so a step behind another one does what it does before it, and leaves the same aboard
  pub passes : (a b : operation.Op) (at : Aboard) → AreIndependent a b → Commute ship at a b
  passes (Lift (Load item)) b at h =
      let r = ignores_cell b item.cell (λ d t. away item.cell d (h.cells item.cell d refl t)) in
      let v : Option Container = Some (container_of item) in
      record { fault = r.fault at v; step = r.step at v; state = r.state at v }
  passes (Lift (Discharge cell id)) b at h =
      let r = ignores_cell b cell (λ d t. away cell d (h.cells cell d refl t)) in
      record { fault = r.fault at None; step = r.step at None; state = r.state at None }
  passes (Fill name kg) b at h =
      let r = ignores_tank b (tank_of ship name.items) (λ other tank f e k. h.tanks other (one_name (λ t. t.name) name.items other ship.tables.tanks tank e k) f) in
      record { fault = r.fault at kg; step = r.step at kg; state = r.state at kg }
  passes (Restow from to id) b at h =
      let r = ignores_cell b from (λ d t. away from d (h.cells from d (inl refl) t)) in
      let s = ignores_cell b to (λ d t. away to d (h.cells to d (inr refl) t)) in
      let between : Aboard = with_cell at from None in
      record {
        fault = s.fault between (at.cells from) ∙ r.fault at None;
        step = s.step between (at.cells from) ∙ r.step at None;
        state = s.state between (at.cells from) ∙ (λ i. with_cell (r.state at None i) to (sym (r.keeps at) i));
      }

pub independent_commute : IndependentCommute
independent_commute ship at a b h = (passes ship a b at h, passes ship b a at (turned a b h))
