use Rattle.std.proofs.Common.{◌≡◌, ◌++◌, map}
use Rattle.std.specs.Vec.Iter.{into_iter_items}
use Rattle.lift_sequence.specs.declared.operations.Op.TheVariants.{Lift}
use Rattle.lift_sequence.proofs.operations.ops_of_lifts.Given as goal

abbrev pub invariant-loop-lift : goal.invariant-loop-lift
invariant-loop-lift l = l.ops.items ++ map Lift (into_iter_items l.lift-iterator) ≡ map Lift l.fn.lifts.items
