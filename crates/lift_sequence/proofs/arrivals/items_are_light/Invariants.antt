use Rattle.std.proofs.Common.{take}
use Rattle.lift_sequence.specs.Arrival.{AreLight}
use Rattle.lift_sequence.proofs.arrivals.items_are_light.Given as goal

abbrev pub invariant-loop-item : goal.invariant-loop-item
invariant-loop-item l = AreLight (take l.item-index l.items)
