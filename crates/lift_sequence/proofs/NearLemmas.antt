-- A step is judged by little of what is aboard.
use Rattle.std.proofs.Common.{◌≡◌, ℕ, zero, suc, ◌+◌, ◌<◌, ◌&&◌, ◌⊎◌, inl, inr, List, [], ◌∷◌, ◌++◌, length, take, get_or, Option, None, Some, Bool, true, false, cond, nat_eq, refl, sym, ap, ◌∙◌, arith, eqb-true}
use Rattle.std.specs.Prelude.{find, if◌then◌else◌}
use Rattle.std.specs.List.{range_with_len}
use Rattle.std.specs.Option.{is_some, is_none, option_map, option_or}
use Rattle.std.specs.Str.{bytes_eq}
use Rattle.std.proofs.lemmas.List.{take_more}
use Rattle.std.proofs.lemmas.Slice.Eq.{bytes_eq-Decides}
use Rattle.units_core.specs.declared.cells.Cell.{Cell}
use Rattle.units_core.specs.Cells.{cell_eq, meet}
use Rattle.stow_messages.specs.declared.lifts.Lift.TheVariants.{Load, Discharge}
use Rattle.ship_profile.specs.Record.{ProfileRecord, place_of, tank_of, tank_body}
use Rattle.lift_sequence.specs.declared.containers.Container.{Container}
use Rattle.lift_sequence.specs.declared.faults.SeqCode.TheVariants.{UnknownCell}
use Rattle.lift_sequence.specs.declared.operations.Op as operation
use Rattle.lift_sequence.specs.declared.operations.Op.TheVariants.{Lift, Fill, Restow}
use Rattle.lift_sequence.specs.Aboard.{Aboard, after_all, after_step, with_cell, with_tank}
use Rattle.lift_sequence.specs.Bodies.{body_in, filling_in, filling_step, step_of}
use Rattle.lift_sequence.specs.Legal.{fault_of, hold_fault, in_bay, is_rival, overlap, place_fault, stand_fault}
use Rattle.lift_sequence.specs.Singles.{AreAlikeAt, AreAlikeFor, IsPart, mass_in}
use Rattle.lift_sequence.proofs.IndependentLemmas.{number_itself, one_name}
use Rattle.lift_sequence.proofs.Listings.{cells_same}

find_alike : (p q : ℕ → Bool) (a n : ℕ) → ((b : ℕ) → b < a + n → p b ≡ q b) → find p (range_with_len a n) ≡ find q (range_with_len a n)
find_alike p q a zero h = refl
find_alike p q a (suc n) h =
    let first = h a (omega arith) in
    let rest = find_alike p q (a + 1) n (λ b low. h b (omega arith)) in
    λ i. if first i then Some a else rest i

and_false : (a b : Bool) → b ≡ false → (a && b) ≡ false
and_false true b h = h
and_false false b h = refl

overlap_alike : (cell : Cell) (a b : Aboard) → AreAlikeAt cell a b → overlap a.cells cell ≡ overlap b.cells cell
unfolding overlap
overlap_alike cell a b h =
    ap (option_map (in_bay cell)) (find_alike (is_rival a.cells cell) (is_rival b.cells cell) 0 1000 (λ n low. by_meet n (omega arith) (meet n cell.bay) refl)) where
      by_meet : (n : ℕ) → n < 1000 → (t : Bool) → meet n cell.bay ≡ t → is_rival a.cells cell n ≡ is_rival b.cells cell n
      by_meet n low true e = λ i. is_some (h.beside n low e i) && meet n cell.bay
      by_meet n low false e = and_false (is_some (a.cells (in_bay cell n))) (meet n cell.bay) e ∙ sym (and_false (is_some (b.cells (in_bay cell n))) (meet n cell.bay) e)

stand_alike : (ship : ProfileRecord) (cell : Cell) (a b : Aboard) → AreAlikeAt cell a b → stand_fault ship a cell ≡ stand_fault ship b cell
stand_alike ship cell a b h = λ i. place_fault (place_of ship cell) (is_some (h.here i)) (overlap_alike cell a b h i)

alike_without : (from to : Cell) (a b : Aboard) → AreAlikeAt to a b → AreAlikeAt to (with_cell a from None) (with_cell b from None)
alike_without from to a b h = record {
  here = ap (λ o. cond (cell_eq from to) None o) h.here;
  beside = λ bay low m. ap (λ o. cond (cell_eq from (in_bay to bay)) None o) (h.beside bay low m);
}

-- so it has one fault, and does one thing, in conditions that are alike for it
pub fault_alike : (ship : ProfileRecord) (op : operation.Op) (a b : Aboard) → AreAlikeFor ship op a b → fault_of ship a op ≡ fault_of ship b op
fault_alike ship (Lift (Load item)) a b h = stand_alike ship item.cell a b h
fault_alike ship (Lift (Discharge cell id)) a b h = λ i. if is_none (place_of ship cell) then Some UnknownCell else hold_fault id.items (h i)
fault_alike ship (Fill name kg) a b h = refl
fault_alike ship (Restow from to id) a b h =
    let stand = stand_alike ship to (with_cell a from None) (with_cell b from None) (alike_without from to a b h.1) in
    λ i. option_or (if is_none (place_of ship from) then Some UnknownCell else hold_fault id.items (h.0 i)) (stand i)

filling_alike : (ship : ProfileRecord) (a b : Aboard) (o : Option ℕ) (kg : ℕ) → ((tank : ℕ) → o ≡ Some tank → a.tanks tank ≡ b.tanks tank)
    → filling_step ship a o kg ≡ filling_step ship b o kg
filling_alike ship a b None kg h = refl
filling_alike ship a b (Some tank) kg h = λ i. record { out = filling_in ship tank (h tank refl i); put = tank_body ship tank kg }

pub step_alike : (ship : ProfileRecord) (op : operation.Op) (a b : Aboard) → AreAlikeFor ship op a b → step_of ship a op ≡ step_of ship b op
step_alike ship (Lift (Load item)) a b h = refl
step_alike ship (Lift (Discharge cell id)) a b h = λ i. record { out = body_in (place_of ship cell) (h i); put = None }
step_alike ship (Fill name kg) a b h = filling_alike ship a b (tank_of ship name.items) kg h
step_alike ship (Restow from to id) a b h = λ i. record { out = body_in (place_of ship from) (h.0 i); put = body_in (place_of ship to) (h.0 i) }

-- the last step of some
after_last : (ship : ProfileRecord) (at : Aboard) (xs : List operation.Op) (x : operation.Op) → after_all ship at (xs ++ x ∷ []) ≡ after_step ship (after_all ship at xs) x
after_last ship at [] x = refl
after_last ship at (y ∷ ys) x = after_last ship (after_step ship at y) ys x

pub after_more : (ship : ProfileRecord) (at : Aboard) (xs : List operation.Op) (i : ℕ) (x : operation.Op) → i < length xs → x ≡ get_or xs i x
    → after_all ship at (take (i + 1) xs) ≡ after_step ship (after_all ship at (take i xs)) x
after_more ship at xs i x inside is =
    ap (after_all ship at) (take_more xs i x inside) ∙ ap (λ y. after_all ship at (take i xs ++ y ∷ [])) (sym is) ∙ after_last ship at (take i xs) x

-- a part with one container more
module _ (old new whole : Aboard) (cell : Cell) (v : Container) (moves : (q : Cell) → new.cells q ≡ cond (cell_eq cell q) (Some v) (old.cells q)) (there : Some v ≡ whole.cells cell) where
  now_there : (q : Cell) → cell_eq cell q ≡ true → new.cells q ≡ whole.cells q
  now_there q e = moves q ∙ ap (λ b. cond b (Some v) (old.cells q)) e ∙ there ∙ ap whole.cells (cells_same cell q e)

  as_before : (q : Cell) → cell_eq cell q ≡ false → new.cells q ≡ old.cells q
  as_before q e = moves q ∙ ap (λ b. cond b (Some v) (old.cells q)) e

  pub part_more : IsPart old whole → IsPart new whole
  part_more part q = by_test (cell_eq cell q) refl (part q) where
    by_test : (b : Bool) → cell_eq cell q ≡ b → (old.cells q ≡ None) ⊎ (old.cells q ≡ whole.cells q) → (new.cells q ≡ None) ⊎ (new.cells q ≡ whole.cells q)
    by_test true e h = inr (now_there q e)
    by_test false e (inl h) = inl (as_before q e ∙ h)
    by_test false e (inr h) = inr (as_before q e ∙ h)

  pub kept_more : (q : Cell) → old.cells q ≡ whole.cells q → new.cells q ≡ whole.cells q
  kept_more q h = by_test (cell_eq cell q) refl where
    by_test : (b : Bool) → cell_eq cell q ≡ b → new.cells q ≡ whole.cells q
    by_test true e = now_there q e
    by_test false e = as_before q e ∙ h

-- a filling leaves all cells as they are, and another step all tanks
pub cells_stay : (at : Aboard) (o : Option ℕ) (kg : ℕ) (cell : Cell) → (with_tank at o kg).cells cell ≡ at.cells cell
cells_stay at None kg cell = refl
cells_stay at (Some tank) kg cell = refl

module _ (ship : ProfileRecord) (name : List ℕ) (tank : ℕ) (is : tank_of ship name ≡ Some tank) where
  clash : false ≡ true → ⊥
  clash z = cc

  with_other : (at : Aboard) (o : Option ℕ) (kg : ℕ) → ((t : ℕ) → o ≡ Some t → nat_eq t tank ≡ false) → (with_tank at o kg).tanks tank ≡ at.tanks tank
  with_other at None kg apart = refl
  with_other at (Some t) kg apart = ap (λ b. cond b (Some kg) (at.tanks tank)) (apart t refl)

  -- a filling of another tank leaves what this one holds, and one of this tank doesn't
  still_held : (at : Aboard) (other : List ℕ) (kg : ℕ) → bytes_eq other name ≡ false → (with_tank at (tank_of ship other) kg).tanks tank ≡ at.tanks tank
  still_held at other kg apart = with_other at (tank_of ship other) kg (λ t k. by_test t k (nat_eq t tank) refl) where
    by_test : (t : ℕ) → tank_of ship other ≡ Some t → (b : Bool) → nat_eq t tank ≡ b → nat_eq t tank ≡ false
    by_test t k true e =
        let named : other ≡ name = one_name (λ t. t.name) other name ship.tables.tanks tank (k ∙ ap (λ n. Some n) (eqb-true t tank e)) is in
        absurd (clash (sym apart ∙ (bytes_eq-Decides other name).1 named))
    by_test t k false e = e

  held_now : (at : Aboard) (other : List ℕ) (kg : ℕ) → bytes_eq other name ≡ true → (with_tank at (tank_of ship other) kg).tanks tank ≡ Some kg
  held_now at other kg same_name =
      ap (λ o. (with_tank at o kg).tanks tank) (ap (tank_of ship) ((bytes_eq-Decides other name).0 same_name) ∙ is) ∙ ap (λ b. cond b (Some kg) (at.tanks tank)) (number_itself tank)

  pub tank_after : (at : Aboard) (op : operation.Op) → (after_step ship at op).tanks tank ≡ option_or (mass_in op name) (at.tanks tank)
  tank_after at (Lift (Load item)) = refl
  tank_after at (Lift (Discharge cell id)) = refl
  tank_after at (Restow from to id) = refl
  tank_after at (Fill other kg) = by_name (bytes_eq other.items name) refl where
    by_name : (b : Bool) → bytes_eq other.items name ≡ b → (with_tank at (tank_of ship other.items) kg).tanks tank ≡ option_or (if b then Some kg else None) (at.tanks tank)
    by_name true e = held_now at other.items kg e
    by_name false e = still_held at other.items kg e
