-- Bookkeeping: a case as the code has it, and what is known of every one.
use Rattle.std.specs.Prelude.{◌≡◌, ℕ, ◌≤◌, ℤ, ◌+ℤ◌, length, take, slice_get, None, Ok}
use Rattle.units_core.specs.Bodies.{Mass}
use Rattle.units_core.specs.Steps.{change}
use Rattle.units_core.specs.Totals.{total}
use Rattle.ship_profile.specs.Record.{ProfileRecord}
use Rattle.lift_sequence.specs.Aboard.{Aboard, after_all}
use Rattle.lift_sequence.specs.Arrival.{ArrivalRecord, cargo_on}
use Rattle.lift_sequence.specs.Bodies.{bodies, steps_of}
use Rattle.lift_sequence.specs.Limits.{most_bodies, most_steps}
use Rattle.lift_sequence.specs.Sequence.{SequenceRecord, sequence_fault}
use Rattle.moment_sums.specs.Bounded.{IsBounded}
use Rattle.port_call.specs.declared.inputs.Inputs.{Inputs}
use Rattle.port_call.specs.Grounds.{GroundRecord}
use Rattle.port_call.specs.Inputs.{Case, items_in, orders_in, ship_in}
use Rattle.port_call.specs.Sums.{sum_at}

pub record CaseRecord : Type 0 where
  pub profile : ProfileRecord
  pub arrival : ArrivalRecord
  pub sequence : SequenceRecord

abbrev pub case_on : ProfileRecord → ArrivalRecord → SequenceRecord → CaseRecord
case_on profile arrival sequence =
    record { profile = profile; arrival = arrival; sequence = sequence }

abbrev pub on_ground : GroundRecord → SequenceRecord → CaseRecord
on_ground base sequence = case_on base.ship base.arrival sequence

abbrev pub aboard_first : CaseRecord → Aboard
aboard_first case = cargo_on case.arrival

-- the case that it is
abbrev pub case_by : CaseRecord → Case
case_by case =
    record { ship = case.profile; arrival = aboard_first case; ops = case.sequence.ops }

-- a sequence made with this ship and this arrival: its list can be done from there, and its steps
-- are what that does
pub record IsMade (ship : ProfileRecord) (arrival : ArrivalRecord)
    (sequence : SequenceRecord) : Type 0 where
  pub legal : sequence_fault ship (cargo_on arrival) sequence.ops ≡ None
  pub steps : sequence.steps ≡ steps_of ship (cargo_on arrival) sequence.ops

-- Inputs define this case: its ship, the items and the fills that are aboard on arrival, and its
-- list of steps.
pub record IsToldBy (inputs : Inputs) (case : CaseRecord) : Type 0 where
  pub ship : ship_in inputs ≡ Ok case.profile
  pub items : items_in inputs ≡ Ok case.arrival.items
  pub fills : case.arrival.fills ≡ case.profile.fills
  pub orders : orders_in inputs ≡ Ok case.sequence.ops

-- Few enough frames, bodies and steps for every sum; and whatever value is added up, what is aboard
-- after k steps is what is aboard on arrival with what these steps change.
pub record IsReady (case : CaseRecord) : Type 0 where
  pub frames : length case.profile.ship.frames ≤ 16
  pub few : length case.sequence.ops ≤ most_steps
  pub long : length case.sequence.steps ≡ length case.sequence.ops
  pub last : slice_get case.sequence.steps (length case.sequence.ops) ≡ None
  pub arrived : length case.arrival.bodies ≤ most_bodies
  pub adds_up : (f : Mass → ℤ) (k : ℕ)
      → total f
      (bodies case.profile (after_all case.profile (aboard_first case) (take k case.sequence.ops)))
      ≡ total f case.arrival.bodies +ℤ total (change f) (take k case.sequence.steps)
  pub bounded : (k : ℕ) → IsBounded (sum_at case.profile (aboard_first case) case.sequence.ops k)
