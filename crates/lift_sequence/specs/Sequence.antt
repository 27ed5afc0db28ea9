-- A sequence of steps: what the planner orders, in his order, and the first step that can't be
-- done.
use Rattle.std.specs.Prelude.{◌≡◌, ◌≤◌, ⊤, ℕ, zero, suc, ◌+◌, ◌^◌, ℤ, ◌+ℤ◌, List, [], ◌∷◌, length}
use Rattle.std.specs.Prelude.{map, take, filter_map, Option, None, Some, option_map, slice_get}
use Rattle.std.specs.Prelude.{nat_lt, if◌then◌else◌}
use Rattle.std.specs.List.{AllByRecursion}
use Rattle.std.specs.Option.{option_or}
use Rattle.stow_messages.specs.declared.lifts.Lift as lift
use Rattle.stow_messages.specs.declared.lifts.Lift.TheVariants.{Load}
use Rattle.stow_messages.specs.declared.step_rows.StepRow.{StepRow}
use Rattle.stow_messages.specs.declared.step_rows.StepRow.TheVariants as row
use Rattle.ship_profile.specs.Record.{ProfileRecord, IsSound}
use Rattle.lift_sequence.specs.declared.faults.SeqFault.{SeqFault}
use Rattle.lift_sequence.specs.declared.faults.SeqCode.TheVariants.{TooManySteps}
use Rattle.lift_sequence.specs.declared.operations.Op as operation
use Rattle.lift_sequence.specs.declared.operations.Op.TheVariants.{Lift, Fill, Restow}
use Rattle.units_core.specs.declared.steps.Step.{Step}
use Rattle.units_core.specs.Bodies.{Mass}
use Rattle.lift_sequence.specs.Aboard.{Aboard, after_all, after_step}
use Rattle.lift_sequence.specs.Arrival.{ArrivalRecord, arrival_fault, arrival_bodies, fault_at}
use Rattle.lift_sequence.specs.Bodies.{bodies, step_of}
use Rattle.lift_sequence.specs.Legal.{fault_of}
use Rattle.lift_sequence.specs.Limits.{most_steps}
use Rattle.units_core.specs.Steps.{change}
use Rattle.units_core.specs.Totals.{total}

-- the lift of a number, the first being 1
abbrev pub lift_at : List lift.Lift → ℕ → Option lift.Lift
lift_at lifts zero = None
lift_at lifts (suc n) = slice_get lifts n

-- the step that a row of a steps file orders
abbrev pub op_of : List lift.Lift → StepRow → Option operation.Op
op_of lifts (row.Lift n) = option_map Lift (lift_at lifts n)
op_of lifts (row.Tank name kg) = Some (Fill name kg)
op_of lifts (row.Restow from to id) = Some (Restow from to id)

-- the steps: those of the rows, where there is a steps file, and else the lifts in their order
abbrev pub ops_of : List lift.Lift → Option (List StepRow) → List operation.Op
ops_of lifts None = map Lift lifts
ops_of lifts (Some rows) = filter_map (op_of lifts) rows

-- the first step that can't be done with what is aboard after the steps before it
abbrev pub first_fault : ProfileRecord → Aboard → ℕ → List operation.Op → Option SeqFault
first_fault ship at number [] = None
first_fault ship at number (op ∷ more) =
    option_or (option_map (fault_at number) (fault_of ship at op))
    (first_fault ship (after_step ship at op) (number + 1) more)

-- that it has too many steps, or the first step that can't be done
abbrev pub sequence_fault : ProfileRecord → Aboard → List operation.Op → Option SeqFault
sequence_fault ship at ops =
    if nat_lt most_steps (length ops) then Some (fault_at (most_steps + 1) TooManySteps)
    else first_fault ship at 1 ops

-- Each step does what it does to what is aboard after the steps before it.
abbrev pub AreSteps : ProfileRecord → Aboard → List operation.Op → List Step → Type 0
AreSteps ship at ops steps =
    (k : ℕ) → slice_get steps k
    ≡ option_map (λ op. step_of ship (after_all ship at (take k ops)) op) (slice_get ops k)

-- Whatever value is added up over the bodies aboard: after the first k steps it is that on arrival,
-- less what these steps took out, and what they put in.
abbrev pub StepsAddUp : ProfileRecord → Aboard → List operation.Op → List Step → Type 0
StepsAddUp ship at ops steps = (f : Mass → ℤ) (k : ℕ)
    → total f (bodies ship (after_all ship at (take k ops)))
    ≡ total f (bodies ship at) +ℤ total (change f) (take k steps)

-- what a sequence is
pub record SequenceRecord : Type 0 where
  pub ops : List operation.Op
  pub steps : List Step

-- a container that is loaded is of at most 10^9 kg
abbrev pub IsLight : operation.Op → Type 0
IsLight (Lift (Load item)) = item.kg ≤ 10 ^ 9
IsLight op = ⊤

-- what every sequence keeps: for each step what it does, not too many of them, and no container too
-- heavy for a sum
pub record AreKept (ops : List operation.Op) (steps : List Step) : Type 0 where
  pub long : length steps ≡ length ops
  pub few : length ops ≤ most_steps
  pub light : AllByRecursion IsLight ops

-- the arrival was made with this profile, which keeps what every profile keeps
pub record IsOf (ship : ProfileRecord) (arrival : ArrivalRecord) : Type 0 where
  pub sound : IsSound ship
  pub legal : arrival_fault ship arrival.items arrival.fills ≡ None
  pub bodies : arrival.bodies ≡ arrival_bodies ship arrival.items arrival.fills
