-- What is aboard, item by item and step by step.
use Rattle.std.proofs.Common.{◌≡◌, ℕ, zero, suc, ◌+◌, ◌<◌, ◌≤◌, arith, length-append, List, [], ◌∷◌, ◌++◌, length, take, drop, get_or, Option, None, Some, Bool, true, false, cond, refl, sym, ap, ◌∙◌}
use Rattle.std.specs.List.{filter_map}
use Rattle.std.specs.Option.{option_or, option_map, option_to_list}
use Rattle.std.proofs.lemmas.List.{take_more, drop_more}
use Rattle.std.proofs.lemmas.List.Elements.{filter_map-append}
use Rattle.std.proofs.lemmas.Option.{none-some}
use Rattle.units_core.specs.declared.cells.Cell.{Cell}
use Rattle.units_core.specs.Cells.{cell_eq}
use Rattle.stow_messages.specs.declared.items.Item.{Item}
use Rattle.ship_profile.specs.declared.fills.TankFill.{TankFill}
use Rattle.ship_profile.specs.Record.{ProfileRecord, tank_body}
use Rattle.lift_sequence.specs.declared.containers.Container.{Container}
use Rattle.lift_sequence.specs.declared.faults.SeqFault.{SeqFault}
use Rattle.lift_sequence.specs.declared.faults.SeqCode.{SeqCode}
use Rattle.lift_sequence.specs.Aboard.{Aboard, with_cell, with_tank, container_of, after_step}
use Rattle.lift_sequence.specs.Arrival.{with_items, with_fills, items_fault, fills_fault, fault_at}
use Rattle.lift_sequence.specs.declared.operations.Op.{Op}
use Rattle.lift_sequence.specs.Bodies.{steps_of}
use Rattle.lift_sequence.specs.Legal.{stand_fault, over_fault}
use Rattle.lift_sequence.specs.Sequence.{AreSteps}
use Rattle.lift_sequence.proofs.Listings.{cells_same}

-- two that hold the same in each cell and in each tank are one
pub same : (a b : Aboard) → ((cell : Cell) → a.cells cell ≡ b.cells cell) → ((tank : ℕ) → a.tanks tank ≡ b.tanks tank) → a ≡ b
same a b h k = λ i. record { cells = λ cell. h cell i; tanks = λ tank. k tank i }

-- a container that is put back where it was
pub put_back : (at : Aboard) (cell : Cell) (c : Container) → at.cells cell ≡ Some c → with_cell (with_cell at cell None) cell (Some c) ≡ at
put_back at cell c there = same (with_cell (with_cell at cell None) cell (Some c)) at (λ q. by_cell q (cell_eq cell q) refl) (λ tank. refl) where
  by_cell : (q : Cell) (b : Bool) → cell_eq cell q ≡ b → cond b (Some c) (cond b None (at.cells q)) ≡ at.cells q
  by_cell q true e = sym there ∙ ap at.cells (cells_same cell q e)
  by_cell q false e = refl

-- one more element gives one more, or none
module _ {X Y : Type 0} (h : X → Option Y) where
  pub filter_one : (x : X) → filter_map h (x ∷ []) ≡ option_to_list (h x)
  filter_one x = by_cases (h x) refl where
    by_cases : (o : Option Y) → h x ≡ o → filter_map h (x ∷ []) ≡ option_to_list o
    by_cases None e = rw e refl
    by_cases (Some y) e = rw e refl

  pub filter_first : (x : X) (xs : List X) → filter_map h (x ∷ xs) ≡ option_to_list (h x) ++ filter_map h xs
  filter_first x xs = filter_map-append h (x ∷ []) xs ∙ ap (λ ys. ys ++ filter_map h xs) (filter_one x)

  at_most_one : (o : Option Y) → length (option_to_list o) ≤ 1
  at_most_one None = omega arith
  at_most_one (Some y) = omega arith

  pub filter_few : (xs : List X) → length (filter_map h xs) ≤ length xs
  filter_few [] = omega arith
  filter_few (x ∷ xs) =
      omega (arith, ap length (filter_first x xs), length-append (option_to_list (h x)) (filter_map h xs), at_most_one (h x), filter_few xs)

  pub filter_more : (xs : List X) (i : ℕ) (x : X) (before after : List Y) (o : Option Y) → i < length xs → x ≡ get_or xs i x → before ≡ filter_map h (take i xs)
      → o ≡ h x → after ≡ before ++ option_to_list o → after ≡ filter_map h (take (i + 1) xs)
  filter_more xs i x before after o inside at so_far is adds =
      adds ∙ (λ j. so_far j ++ option_to_list (is j)) ∙ ap (λ ys. filter_map h (take i xs) ++ ys) (sym (filter_one x))
      ∙ sym (filter_map-append h (take i xs) (x ∷ [])) ∙ ap (λ y. filter_map h (take i xs ++ y ∷ [])) at ∙ ap (filter_map h) (sym (take_more xs i x inside))

-- one more item, one more fill
with_items-last : (at : Aboard) (xs : List Item) (x : Item) → with_items at (xs ++ x ∷ []) ≡ with_cell (with_items at xs) x.cell (Some (container_of x))
with_items-last at [] x = refl
with_items-last at (y ∷ ys) x = with_items-last (with_cell at y.cell (Some (container_of y))) ys x

with_fills-last : (at : Aboard) (xs : List TankFill) (x : TankFill) → with_fills at (xs ++ x ∷ []) ≡ with_tank (with_fills at xs) (Some x.tank) x.kg
with_fills-last at [] x = refl
with_fills-last at (y ∷ ys) x = with_fills-last (with_tank at (Some y.tank) y.kg) ys x

pub items_more : (start now next : Aboard) (xs : List Item) (i : ℕ) (x : Item) → i < length xs → x ≡ get_or xs i x → now ≡ with_items start (take i xs)
    → next ≡ with_cell now x.cell (Some (container_of x)) → next ≡ with_items start (take (i + 1) xs)
items_more start now next xs i x inside at so_far moves =
    moves ∙ ap (λ (a : Aboard). with_cell a x.cell (Some (container_of x))) so_far ∙ sym (with_items-last start (take i xs) x)
    ∙ ap (λ y. with_items start (take i xs ++ y ∷ [])) at ∙ ap (with_items start) (sym (take_more xs i x inside))

pub fills_more : (start now next : Aboard) (xs : List TankFill) (i : ℕ) (x : TankFill) → i < length xs → x ≡ get_or xs i x → now ≡ with_fills start (take i xs)
    → next ≡ with_tank now (Some x.tank) x.kg → next ≡ with_fills start (take (i + 1) xs)
fills_more start now next xs i x inside at so_far moves =
    moves ∙ ap (λ (a : Aboard). with_tank a (Some x.tank) x.kg) so_far ∙ sym (with_fills-last start (take i xs) x)
    ∙ ap (λ y. with_fills start (take i xs ++ y ∷ [])) at ∙ ap (with_fills start) (sym (take_more xs i x inside))

-- a number without a fault, and one with
pub passed : (n : ℕ) (o : Option SeqCode) (more : Option SeqFault) → o ≡ None → option_or (option_map (fault_at n) o) more ≡ more
passed n o more e = rw e refl

pub stopped : (n : ℕ) (o : Option SeqCode) (e : SeqCode) (more : Option SeqFault) → o ≡ Some e → option_or (option_map (fault_at n) o) more ≡ Some (fault_at n e)
stopped n o e more h = rw h refl

-- where neither a first one nor those behind it have a fault
pub none_first : (n : ℕ) (o : Option SeqCode) (more : Option SeqFault) → option_or (option_map (fault_at n) o) more ≡ None → (o ≡ None) × (more ≡ None)
none_first n None more h = (refl, h)
none_first n (Some code) more h = absurd (none-some (fault_at n code) (sym h))

-- what is left begins with the element that comes next
front : {X : Type 0} (xs : List X) (i : ℕ) (x : X) → i < length xs → x ≡ get_or xs i x → drop i xs ≡ x ∷ drop (i + 1) xs
front xs i x inside at = drop_more xs i x inside ∙ ap (λ y. y ∷ drop (i + 1) xs) (sym at)

module _ (ship : ProfileRecord) where
  pub fills_pass : (xs : List TankFill) (i n : ℕ) (x : TankFill) (all : Option SeqFault) → i < length xs → x ≡ get_or xs i x
      → all ≡ fills_fault ship (n + 1) (drop i xs) → over_fault (tank_body ship x.tank x.kg) ≡ None → all ≡ fills_fault ship (n + 1 + 1) (drop (i + 1) xs)
  fills_pass xs i n x all inside at so_far legal = so_far ∙ ap (fills_fault ship (n + 1)) (front xs i x inside at) ∙ passed (n + 1) _ _ legal

  pub items_pass : (now next : Aboard) (xs : List Item) (i n : ℕ) (x : Item) (all : Option SeqFault) → i < length xs → x ≡ get_or xs i x
      → all ≡ items_fault ship now (n + 1) (drop i xs) → stand_fault ship now x.cell ≡ None → next ≡ with_cell now x.cell (Some (container_of x))
      → all ≡ items_fault ship next (n + 1 + 1) (drop (i + 1) xs)
  items_pass now next xs i n x all inside at so_far legal moves =
      so_far ∙ ap (items_fault ship now (n + 1)) (front xs i x inside at) ∙ passed (n + 1) _ _ legal
      ∙ ap (λ (a : Aboard). items_fault ship a (n + 1 + 1) (drop (i + 1) xs)) (sym moves)

  pub items_stop : (now : Aboard) (xs : List Item) (i n : ℕ) (x : Item) (all : Option SeqFault) (e : SeqCode) → i < length xs → x ≡ get_or xs i x
      → all ≡ items_fault ship now (n + 1) (drop i xs) → stand_fault ship now x.cell ≡ Some e → all ≡ Some (fault_at (n + 1) e)
  items_stop now xs i n x all e inside at so_far fault = so_far ∙ ap (items_fault ship now (n + 1)) (front xs i x inside at) ∙ stopped (n + 1) _ e _ fault

-- a restow that can be done, and one that can't
pub restow_legal : (a b : Option SeqCode) → a ≡ None → b ≡ None → option_or a b ≡ None
restow_legal a b h k = rw (h, k) refl

pub restow_refused : (a b : Option SeqCode) (e : SeqCode) → a ≡ None → b ≡ Some e → option_or a b ≡ Some e
restow_refused a b e h k = rw (h, k) refl

-- each order is one step
pub as_many : (ship : ProfileRecord) (at : Aboard) (ops : List Op) → length (steps_of ship at ops) ≡ length ops
as_many ship at [] = refl
as_many ship at (op ∷ ops) = ap (λ n. suc n) (as_many ship (after_step ship at op) ops)

-- step k is what op k does to what is aboard after those before it
pub each_step : (ship : ProfileRecord) (at : Aboard) (ops : List Op) → AreSteps ship at ops (steps_of ship at ops)
each_step ship at [] k = refl
each_step ship at (op ∷ ops) zero = refl
each_step ship at (op ∷ ops) (suc k) = each_step ship (after_step ship at op) ops k
