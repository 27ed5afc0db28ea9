-- One step more or less in a sequence, or fillings of one tank in another order: what the other
-- steps do then.
use Rattle.std.specs.Prelude.{◌≡◌, ◌⊎◌, ℕ, zero, suc, ◌<◌, List, [], ◌∷◌, Option, None, Some, Bool}
use Rattle.std.specs.Prelude.{true, false, ◌&&◌, ◌+◌, ◌-◌, ◌++◌, length, take, drop, nat_lt}
use Rattle.std.specs.Prelude.{slice_get, slice_index_or, if◌then◌else◌}
use Rattle.std.specs.Option.{is_none}
use Rattle.std.specs.List.{list_all, remove}
use Rattle.std.specs.Str.{bytes_eq}
use Rattle.units_core.specs.declared.cells.Cell.{Cell}
use Rattle.units_core.specs.declared.steps.Step.{Step}
use Rattle.units_core.specs.Bodies.{Mass}
use Rattle.units_core.specs.Cells.{meet}
use Rattle.stow_messages.specs.declared.lifts.Lift.TheVariants.{Load, Discharge}
use Rattle.ship_profile.specs.Record.{ProfileRecord, tank_of}
use Rattle.lift_sequence.specs.declared.containers.Container.{Container}
use Rattle.lift_sequence.specs.declared.near.Left.{Left}
use Rattle.lift_sequence.specs.declared.near.Left.TheVariants.{Is, WasIn}
use Rattle.lift_sequence.specs.declared.operations.Op as operation
use Rattle.lift_sequence.specs.declared.operations.Op.TheVariants.{Lift, Fill, Restow}
use Rattle.lift_sequence.specs.Aboard.{Aboard, after_all}
use Rattle.lift_sequence.specs.Independent.{are_independent, fills}
use Rattle.lift_sequence.specs.Limits.{most_steps}
use Rattle.lift_sequence.specs.Legal.{fault_of, in_bay}

-- a step is independent of each of these
abbrev pub is_free : operation.Op → List operation.Op → Bool
is_free op ops = list_all (are_independent op) ops

-- Before these a step can come in or go away: it is a filling, since any mass can follow another in
-- a tank, or it is independent of each of them.
abbrev pub is_apart : operation.Op → List operation.Op → Bool
is_apart (Fill name kg) ops = true
is_apart (Lift lift) ops = is_free (Lift lift) ops
is_apart (Restow from to id) ops = is_free (Restow from to id) ops

-- the step at a place can go away
abbrev pub is_apart_there : Option operation.Op → List operation.Op → Bool
is_apart_there None ops = false
is_apart_there (Some op) ops = is_apart op ops

abbrev pub can_go : List operation.Op → ℕ → Bool
can_go ops i = is_apart_there (slice_get ops i) (drop (i + 1) ops)

-- a step can come in at a place: there is room for it, and it can be done there
abbrev pub can_come : ProfileRecord → Aboard → List operation.Op → ℕ → operation.Op → Bool
can_come ship at ops i op = nat_lt (length ops) most_steps
    && (is_apart op (drop i ops) && is_none (fault_of ship (after_all ship at (take i ops)) op))

-- what steps do where the tank of a name holds something else before them: the first of them that
-- fills it takes that out
abbrev pub handed : List ℕ → Option Mass → List operation.Op → List Step → List Step
handed name out [] steps = steps
handed name out (op ∷ ops) [] = []
handed name out (op ∷ ops) (step ∷ steps) =
    if fills op name then record { out = out; put = step.put } ∷ steps
    else step ∷ handed name out ops steps

-- the same where it is the tank of this step, and nothing changes where that is no filling
abbrev pub handed_by : operation.Op → Option Mass → List operation.Op → List Step → List Step
handed_by (Fill name kg) out ops steps = handed name.items out ops steps
handed_by (Lift lift) out ops steps = steps
handed_by (Restow from to id) out ops steps = steps

-- what steps do where the step at a place puts something else into the tank of a name, which the
-- next of them that fills it takes out
abbrev pub refilled : List ℕ → Option Mass → ℕ → List operation.Op → List Step → List Step
refilled name put i [] steps = steps
refilled name put i (op ∷ ops) [] = []
refilled name put zero (op ∷ ops) (step ∷ steps) =
    record { out = step.out; put = put } ∷ handed name put ops steps
refilled name put (suc i) (op ∷ ops) (step ∷ steps) = step ∷ refilled name put i ops steps

-- how many steps come before the first one that fills the tank of a name; all where none does
abbrev pub next_filling : List ℕ → List operation.Op → ℕ
next_filling name [] = 0
next_filling name (op ∷ ops) = if fills op name then 0 else suc (next_filling name ops)

-- What the tank of a name holds behind some steps, where it holds this before them: what the last
-- of them that fills it puts in.
abbrev pub held_behind : List ℕ → Option Mass → List operation.Op → List Step → Option Mass
held_behind name held [] steps = held
held_behind name held (op ∷ ops) [] = held
held_behind name held (op ∷ ops) (step ∷ steps) =
    if fills op name then held_behind name step.put ops steps else held_behind name held ops steps

-- What it holds before some steps, where it holds this behind them: what the first of them that
-- fills it takes out; where none does, the same.
abbrev pub held_before : List ℕ → Option Mass → List operation.Op → List Step → Option Mass
held_before name held [] steps = held
held_before name held (op ∷ ops) [] = held
held_before name held (op ∷ ops) (step ∷ steps) =
    if fills op name then step.out else held_before name held ops steps

-- what it holds where its filling at one place, before which it holds this, is moved to another
abbrev pub held_at : List ℕ → Option Mass → (from to : ℕ) → List operation.Op → List Step
    → Option Mass
held_at name held from to ops steps =
    if nat_lt from to
    then held_behind name held (take (to - from) (drop (from + 1) ops))
    (take (to - from) (drop (from + 1) steps))
    else held_before name held (take (from - to) (drop to ops)) (take (from - to) (drop to steps))

-- what steps do where the filling of a tank at a place takes this out of it, and the next one what
-- that puts in; d is read of no list that has the place
abbrev pub filled_at : List ℕ → Option Mass → ℕ → List operation.Op → (d : Step) → List Step
    → List Step
filled_at name held i ops d steps =
    take i steps ++ (record { out = held; put = (slice_index_or steps i d).put }
    ∷ handed name (slice_index_or steps i d).put (drop (i + 1) ops) (drop (i + 1) steps))

-- what the other steps do where the filling of a tank at a place goes away
abbrev pub left_by : List ℕ → ℕ → List operation.Op → (d : Step) → List Step → List Step
left_by name i ops d steps =
    take i (remove steps i) ++ handed name (slice_index_or steps i d).out (drop i (remove ops i))
    (drop i (remove steps i))

-- what steps do where the filling of a tank at one place is moved to another
abbrev pub filled_past : List ℕ → (from to : ℕ) → List operation.Op → (d : Step) → List Step
    → List Step
filled_past name i j ops d steps =
    take j (left_by name i ops d steps)
    ++ (record {
      out = held_at name (slice_index_or steps i d).out i j ops steps;
      put = (slice_index_or steps i d).put;
    } ∷ handed name (slice_index_or steps i d).put
    (drop j (remove ops i)) (drop j (left_by name i ops d steps)))

-- the place of the next filling of the tank that the step at a place fills; the number of steps
-- where there is none
abbrev pub behind_of : Option operation.Op → List operation.Op → ℕ → ℕ
behind_of None ops i = length ops
behind_of (Some (Lift lift)) ops i = length ops
behind_of (Some (Fill name kg)) ops i = i + 1 + next_filling name.items (drop (i + 1) ops)
behind_of (Some (Restow from to id)) ops i = length ops

abbrev pub next_behind : List operation.Op → ℕ → ℕ
next_behind ops i = behind_of (slice_get ops i) ops i

-- the step at a place fills a tank
abbrev pub is_filling : Option operation.Op → Bool
is_filling None = false
is_filling (Some (Lift lift)) = false
is_filling (Some (Fill name kg)) = true
is_filling (Some (Restow from to id)) = false

-- the steps at two places of a list fill the same tank
abbrev pub fills_as : Option operation.Op → Option operation.Op → Bool
fills_as None other = false
fills_as (Some (Lift lift)) other = false
fills_as (Some (Fill name kg)) None = false
fills_as (Some (Fill name kg)) (Some other) = fills other name.items
fills_as (Some (Restow from to id)) other = false

abbrev pub fill_one_tank : List operation.Op → ℕ → ℕ → Bool
fill_one_tank ops i j = fills_as (slice_get ops i) (slice_get ops j)

-- two conditions hold the same in a cell and in those that overlap it
pub record AreAlikeAt (cell : Cell) (a b : Aboard) : Type 0 where
  pub here : a.cells cell ≡ b.cells cell
  pub beside : (bay : ℕ) → bay < 1000 → meet bay cell.bay ≡ true
      → a.cells (in_bay cell bay) ≡ b.cells (in_bay cell bay)

-- they hold the same in all that a step is judged by
abbrev pub AreAlikeFor : ProfileRecord → operation.Op → Aboard → Aboard → Type 0
AreAlikeFor ship (Lift (Load item)) a b = AreAlikeAt item.cell a b
AreAlikeFor ship (Lift (Discharge cell id)) a b = a.cells cell ≡ b.cells cell
AreAlikeFor ship (Fill name kg) a b =
    (tank : ℕ) → tank_of ship name.items ≡ Some tank → a.tanks tank ≡ b.tanks tank
AreAlikeFor ship (Restow from to id) a b = (a.cells from ≡ b.cells from) × AreAlikeAt to a b

-- what is in a cell after a step, by what was aboard before it
abbrev pub left_in : Aboard → Left → Option Container
left_in at (Is container) = container
left_in at (WasIn cell) = at.cells cell

-- the mass to which a step fills the tank of a name
abbrev pub mass_in : operation.Op → List ℕ → Option ℕ
mass_in (Lift lift) name = None
mass_in (Fill other kg) name = if bytes_eq other.items name then Some kg else None
mass_in (Restow from to id) name = None

-- a condition holds in its cells no other containers than another one
abbrev pub IsPart : Aboard → Aboard → Type 0
IsPart part whole = (cell : Cell) → (part.cells cell ≡ None) ⊎ (part.cells cell ≡ whole.cells cell)
