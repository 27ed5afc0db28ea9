-- A container on its way through the steps behind its load, and what another weight of the
-- container changes in these steps.
use Rattle.std.specs.Prelude.{◌≡◌, ℕ, ◌+◌, ◌≤◌, List, [], ◌∷◌, take, drop, Option, None, Some}
use Rattle.std.specs.Prelude.{option_map, option_and_then, slice_get, slice_set, Bool, true, false}
use Rattle.std.specs.Prelude.{if◌then◌else◌}
use Rattle.std.specs.Option.{is_some}
use Rattle.units_core.specs.declared.cells.Cell.{Cell}
use Rattle.units_core.specs.Cells.{cell_eq}
use Rattle.stow_messages.specs.declared.lifts.Lift.TheVariants.{Load, Discharge}
use Rattle.ship_profile.specs.Record.{ProfileRecord}
use Rattle.lift_sequence.specs.declared.operations.Op as operation
use Rattle.lift_sequence.specs.declared.operations.Op.TheVariants.{Lift, Fill, Restow}
use Rattle.units_core.specs.declared.steps.Step.{Step}
use Rattle.units_core.specs.Steps.{step_weighed}
use Rattle.lift_sequence.specs.Aboard.{Aboard}
use Rattle.lift_sequence.specs.Bodies.{steps_of}
use Rattle.lift_sequence.specs.Sequence.{first_fault, sequence_fault}

-- the cell into which a step loads a container; None: it is no load
abbrev pub loaded_cell : operation.Op → Option Cell
loaded_cell (Lift (Load item)) = Some item.cell
loaded_cell op = None

-- the cell into which the step at a place of a list loads a container, the first place being 0
abbrev pub loaded_at : List operation.Op → ℕ → Option Cell
loaded_at ops i = option_and_then loaded_cell (slice_get ops i)

abbrev pub IsLoad : List operation.Op → ℕ → Type 0
IsLoad ops i = is_some (loaded_at ops i) ≡ true

-- the load of a container of another weight; any other step stays as it is
abbrev pub reweighed : ℕ → operation.Op → operation.Op
reweighed kg (Lift (Load item)) = Lift (Load (record { cell = item.cell; id = item.id; kg = kg }))
reweighed kg op = op

-- a list with this step at a place, where there is one
abbrev pub with_step : List operation.Op → ℕ → Option operation.Op → List operation.Op
with_step ops i None = ops
with_step ops i (Some op) = slice_set ops i op

-- the list with another weight of the load at a place
abbrev pub weighed_at : ℕ → ℕ → List operation.Op → List operation.Op
weighed_at kg i ops = with_step ops i (option_map (reweighed kg) (slice_get ops i))

-- A step moves the container that is in this cell. None: it is ashore, and no step moves it.
abbrev pub moves : Option Cell → operation.Op → Bool
moves None op = false
moves (Some c) (Lift (Load item)) = false
moves (Some c) (Lift (Discharge cell id)) = cell_eq c cell
moves (Some c) (Fill name kg) = false
moves (Some c) (Restow from to id) = cell_eq c from

-- a step takes the container to another cell
abbrev pub restows : Option Cell → operation.Op → Bool
restows None op = false
restows (Some c) (Lift (Load item)) = false
restows (Some c) (Lift (Discharge cell id)) = false
restows (Some c) (Fill name kg) = false
restows (Some c) (Restow from to id) = cell_eq c from

-- the container's cell after a step
abbrev pub next_cell : Option Cell → operation.Op → Option Cell
next_cell None op = None
next_cell (Some c) (Lift (Load item)) = Some c
next_cell (Some c) (Lift (Discharge cell id)) = if cell_eq c cell then None else Some c
next_cell (Some c) (Fill name kg) = Some c
next_cell (Some c) (Restow from to id) = if cell_eq c from then Some to else Some c

-- how many of some steps move the container, and how many take it to another cell
abbrev pub moves_in : Option Cell → List operation.Op → ℕ
moves_in cell [] = 0
moves_in cell (op ∷ more) = (if moves cell op then 1 else 0) + moves_in (next_cell cell op) more

abbrev pub restows_in : Option Cell → List operation.Op → ℕ
restows_in cell [] = 0
restows_in cell (op ∷ more) = (if restows cell op then 1 else 0)
    + restows_in (next_cell cell op) more

-- One step at most moves a container besides its restows: its discharge.
abbrev pub FewMoves : Type 0
FewMoves = (cell : Option Cell) (ops : List operation.Op)
    → moves_in cell ops ≤ restows_in cell ops + 1

-- what some steps do, those that move the container being of another weight
abbrev pub steps_weighed : ℕ → Option Cell → List operation.Op → List Step → List Step
steps_weighed kg cell ops [] = []
steps_weighed kg cell [] (step ∷ steps) = step ∷ steps
steps_weighed kg cell (op ∷ ops) (step ∷ steps) =
    (if moves cell op then step_weighed kg step else step) ∷ steps_weighed kg
    (next_cell cell op) ops steps

-- What the steps of a list did, and what they do where the load at place i has another weight:
-- those before it the same, the load and the steps behind it that move its container the same with
-- bodies of the new weight, and all others the same.
pub record AreReweighed (kg i : ℕ) (ops : List operation.Op) (old new : List Step) : Type 0 where
  pub before : take i new ≡ take i old
  pub load : slice_get new i ≡ option_map (step_weighed kg) (slice_get old i)
  pub behind : drop (i + 1) new
      ≡ steps_weighed kg (loaded_at ops i) (drop (i + 1) ops) (drop (i + 1) old)

-- Where every step of a list can be done, each of them can be done with another weight of one load,
-- and that is all that changes.
abbrev pub Reweighs : Type 0
Reweighs = (ship : ProfileRecord) (at : Aboard) (number : ℕ) (ops : List operation.Op) (i kg : ℕ)
    → first_fault ship at number ops ≡ None
    → IsLoad ops i → (first_fault ship at number (weighed_at kg i ops) ≡ None)
    × AreReweighed kg i ops (steps_of ship at ops) (steps_of ship at (weighed_at kg i ops))

-- the law for a sequence, whose length is limited as well
abbrev pub ReweighsSequences : Type 0
ReweighsSequences = (ship : ProfileRecord) (at : Aboard) (ops : List operation.Op) (i kg : ℕ)
    → sequence_fault ship at ops ≡ None
    → IsLoad ops i → sequence_fault ship at (weighed_at kg i ops) ≡ None

-- no other list of steps fits these claims
abbrev pub AreReweighedOnce : Type 0
AreReweighedOnce = (kg i : ℕ) (ops : List operation.Op) (old one other : List Step)
    → AreReweighed kg i ops old one → AreReweighed kg i ops old other → one ≡ other
