use Rattle.std.proofs.Common.{◌≡◌, ◌+◌, take, drop}
use Rattle.lift_sequence.specs.Arrival.{fill_bodies, fills_fault}
use Rattle.lift_sequence.proofs.arrivals.fill_bodies.Given as goal

abbrev pub invariant-loop-fill : goal.invariant-loop-fill
invariant-loop-fill l = record {
  number_is : l.number ≡ l.fill-index;
  bodies_are : l.bodies.items ≡ fill_bodies l.profile (take l.fill-index l.fills);
  legal : fills_fault l.profile 1 l.fills ≡ fills_fault l.profile (l.number + 1) (drop l.fill-index l.fills);
}
