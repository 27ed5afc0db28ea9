use Rattle.std.proofs.Common.{◌≡◌, ◌≤◌, Some, length, take}
use Rattle.ship_profile.specs.Record.{ProfileRecord, tank_of}
use Rattle.lift_sequence.specs.Aboard.{after_all}
use Rattle.lift_sequence.specs.Arrival.{cargo_on}
use Rattle.lift_sequence.proofs.near.mass_after.Given as goal

-- no step from the place on that the loop has reached fills the tank
abbrev pub invariant-loop-place : goal.invariant-loop-place
invariant-loop-place l = record {
  within : l.place ≤ length l.ops;
  still : (ship : ProfileRecord) → tank_of ship l.name ≡ Some l.tank
      → (after_all ship (cargo_on l.arrival) l.ops).tanks l.tank ≡ (after_all ship (cargo_on l.arrival) (take l.place l.ops)).tanks l.tank;
}

abbrev pub decreases-loop-place : goal.decreases-loop-place
decreases-loop-place l = l.place
