-- Steps that are independent of each other: no cell of the one is or overlaps a cell of the other,
-- and they don't fill the same tank. So they can be done in either order. First as a relation, and
-- then as the test for it.
use Rattle.std.specs.Prelude.{◌≡◌, ◌↔◌, ◌⊎◌, ℕ, ◌-◌, ◌<◌, ◌≤◌, List, Option, None, Some, slice_get}
use Rattle.std.specs.Prelude.{Bool, true, false, not, ◌&&◌, nat_eq}
use Rattle.std.specs.List.{insert, remove}
use Rattle.std.specs.Str.{bytes_eq}
use Rattle.units_core.specs.declared.cells.Cell.{Cell}
use Rattle.units_core.specs.Cells.{Conflicts, meet}
use Rattle.stow_messages.specs.declared.lifts.Lift.TheVariants.{Load, Discharge}
use Rattle.ship_profile.specs.Record.{ProfileRecord}
use Rattle.lift_sequence.specs.declared.operations.Op as operation
use Rattle.lift_sequence.specs.declared.operations.Op.TheVariants.{Lift, Fill, Restow}
use Rattle.lift_sequence.specs.Aboard.{Aboard, after_step}
use Rattle.lift_sequence.specs.Bodies.{step_of}
use Rattle.lift_sequence.specs.Legal.{fault_of}

-- a step takes a container out of this cell, or puts one into it; and it fills the tank of this
-- name
abbrev pub Touches : operation.Op → Cell → Type 0
Touches (Lift (Load item)) cell = item.cell ≡ cell
Touches (Lift (Discharge from id)) cell = from ≡ cell
Touches (Fill name kg) cell = ⊥
Touches (Restow from to id) cell = (from ≡ cell) ⊎ (to ≡ cell)

abbrev pub Fills : operation.Op → List ℕ → Type 0
Fills (Lift lift) name = ⊥
Fills (Fill other kg) name = other.items ≡ name
Fills (Restow from to id) name = ⊥

pub record AreIndependent (a b : operation.Op) : Type 0 where
  pub cells : (one other : Cell) → Touches a one → Touches b other → Conflicts one other → ⊥
  pub tanks : (name : List ℕ) → Fills a name → Fills b name → ⊥

-- A step has the same fault and the same effect before another step and after it, and after both
-- the same is aboard in either order.
pub record Commute (ship : ProfileRecord) (at : Aboard) (a b : operation.Op) : Type 0 where
  pub fault : fault_of ship (after_step ship at a) b ≡ fault_of ship at b
  pub step : step_of ship (after_step ship at a) b ≡ step_of ship at b
  pub state : after_step ship (after_step ship at a) b ≡ after_step ship (after_step ship at b) a

-- so it is with two independent steps, whatever is aboard
abbrev pub IndependentCommute : Type 0
IndependentCommute = (ship : ProfileRecord) (at : Aboard) (a b : operation.Op) → AreIndependent a b
    → Commute ship at a b × Commute ship at b a

-- two cells don't overlap
abbrev pub are_apart : Cell → Cell → Bool
are_apart a b = not (nat_eq a.row b.row && (nat_eq a.tier b.tier && meet a.bay b.bay))

-- a step touches no cell that overlaps this one
abbrev pub leaves : operation.Op → Cell → Bool
leaves (Lift (Load item)) cell = are_apart item.cell cell
leaves (Lift (Discharge from id)) cell = are_apart from cell
leaves (Fill name kg) cell = true
leaves (Restow from to id) cell = are_apart from cell && are_apart to cell

-- a step fills the tank of this name
abbrev pub fills : operation.Op → List ℕ → Bool
fills (Lift lift) name = false
fills (Fill other kg) name = bytes_eq other.items name
fills (Restow from to id) name = false

-- two steps are independent of each other
abbrev pub are_independent : operation.Op → operation.Op → Bool
are_independent (Lift (Load item)) other = leaves other item.cell
are_independent (Lift (Discharge cell id)) other = leaves other cell
are_independent (Fill name kg) other = not (fills other name.items)
are_independent (Restow from to id) other = leaves other from && leaves other to

-- the test is true exactly where the steps are independent
abbrev pub TellsIndependent : Type 0
TellsIndependent = (a b : operation.Op) → (are_independent a b ≡ true) ↔ AreIndependent a b

-- the steps at two places of a list are independent of each other
abbrev pub both_independent : Option operation.Op → Option operation.Op → Bool
both_independent (Some a) (Some b) = are_independent a b
both_independent a b = false

abbrev pub independent_at : List operation.Op → ℕ → ℕ → Bool
independent_at ops i j = both_independent (slice_get ops i) (slice_get ops j)

-- the steps at two places, the one before the other, are independent of each other and of all steps
-- between
pub record AreExchangeable (ops : List operation.Op) (i j : ℕ) : Type 0 where
  pub order : i < j
  pub pair : independent_at ops i j ≡ true
  pub first : (k : ℕ) → i < k → k < j → independent_at ops i k ≡ true
  pub last : (k : ℕ) → i < k → k < j → independent_at ops j k ≡ true

-- two steps can be exchanged; their numbers are given in any order, the first step being 1; a step
-- can be exchanged with itself
abbrev pub CanSwap : List operation.Op → ℕ → ℕ → Type 0
CanSwap ops a b = (a ≡ b)
    ⊎ (AreExchangeable ops (a - 1) (b - 1) ⊎ AreExchangeable ops (b - 1) (a - 1))

-- a list with the element at one place taken out, and put in again so that it is at another
abbrev pub put_in : {X : Type 0} → List X → ℕ → Option X → List X
put_in xs j None = xs
put_in xs j (Some x) = insert xs j x

abbrev pub moved : {X : Type 0} → List X → ℕ → ℕ → List X
moved xs i j = put_in (remove xs i) j (slice_get xs i)

-- the step at one place is independent of all steps that it passes on its way to another
pub record CanPass (ops : List operation.Op) (i j : ℕ) : Type 0 where
  pub forth : (k : ℕ) → i < k → k ≤ j → independent_at ops i k ≡ true
  pub back : (k : ℕ) → j ≤ k → k < i → independent_at ops i k ≡ true
