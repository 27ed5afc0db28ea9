-- Bookkeeping: a ship and what is aboard of her on arrival, from which lists of steps go on.
use Rattle.std.specs.Prelude.{◌≡◌, ◌≤◌, ℤ, List, Option}
use Rattle.units_core.specs.Bodies.{Mass}
use Rattle.units_core.specs.Totals.{total}
use Rattle.units_core.specs.declared.steps.Step.{Step}
use Rattle.ship_profile.specs.Record.{ProfileRecord}
use Rattle.lift_sequence.specs.declared.faults.SeqFault.{SeqFault}
use Rattle.lift_sequence.specs.declared.operations.Op.{Op}
use Rattle.lift_sequence.specs.Aboard.{Aboard}
use Rattle.lift_sequence.specs.Arrival.{ArrivalRecord, IsStowed, cargo_on}
use Rattle.lift_sequence.specs.Bodies.{bodies, steps_of}
use Rattle.lift_sequence.specs.Limits.{most_bodies}
use Rattle.lift_sequence.specs.Sequence.{IsOf, sequence_fault}
use Rattle.moment_sums.specs.Kept.{Kept, size_of, values}
use Rattle.moment_sums.specs.Sum.{sum_of}

-- a ship and her condition on arrival
pub record GroundRecord : Type 0 where
  pub ship : ProfileRecord
  pub arrival : ArrivalRecord

-- an arrival with this profile, whose bodies add up, in every value, to those of what is aboard
pub record HasArrived (ship : ProfileRecord) (arrival : ArrivalRecord) : Type 0 where
  pub of : IsOf ship arrival
  pub adds_up : (f : Mass → ℤ) → total f arrival.bodies ≡ total f (bodies ship (cargo_on arrival))

-- everything aboard on arrival, added up
pub record IsArrivalTotal (ship : ProfileRecord) (arrival : ArrivalRecord)
    (total : Kept) : Type 0 where
  pub sum : values total ≡ sum_of ship.ship.frames arrival.bodies
  pub size : size_of total ≤ most_bodies

-- the arrival was made with the profile, it is as every arrival, and all that is aboard is added up
pub record IsGround (ship : ProfileRecord) (arrival : ArrivalRecord) (total : Kept) : Type 0 where
  pub arrived : HasArrived ship arrival
  pub stowed : IsStowed arrival
  pub adds_up : IsArrivalTotal ship arrival total

abbrev pub aboard_first : GroundRecord → Aboard
aboard_first base = cargo_on base.arrival

-- why a list can't be done from there
abbrev pub list_fault : GroundRecord → List Op → Option SeqFault
list_fault base ops = sequence_fault base.ship (aboard_first base) ops

-- what its steps do
abbrev pub steps_on : GroundRecord → List Op → List Step
steps_on base ops = steps_of base.ship (aboard_first base) ops
