use Rattle.std.proofs.Common.{◌≡◌, ◌≤◌, length, take}
use Rattle.ship_profile.specs.Record.{ProfileRecord}
use Rattle.lift_sequence.specs.Aboard.{after_all}
use Rattle.lift_sequence.specs.Arrival.{cargo_on}
use Rattle.lift_sequence.proofs.near.container_after.Given as goal

-- what is in the cell in the end is what is in `l.cell` before the place that the loop has reached
abbrev pub invariant-loop-place : goal.invariant-loop-place
invariant-loop-place l = record {
  within : l.place ≤ length l.ops;
  came : (ship : ProfileRecord)
      → (after_all ship (cargo_on l.arrival) l.ops).cells l.fn.cell ≡ (after_all ship (cargo_on l.arrival) (take l.place l.ops)).cells l.cell;
}

abbrev pub decreases-loop-place : goal.decreases-loop-place
decreases-loop-place l = l.place
