use Rattle.std.proofs.Common.{◌≡◌, ◌+◌, ◌++◌, drop}
use Rattle.lift_sequence.specs.Aboard.{cargo_in}
use Rattle.lift_sequence.specs.Bodies.{steps_of}
use Rattle.lift_sequence.specs.Sequence.{first_fault}
use Rattle.lift_sequence.proofs.sequences.make_all.Given as goal

abbrev pub invariant-loop-op : goal.invariant-loop-op
invariant-loop-op l = record {
  number_is : l.number ≡ l.op-index;
  steps_are : steps_of l.profile (cargo_in l.fn.stowage) l.ops ≡ l.steps.items ++ steps_of l.profile (cargo_in l.stowage) (drop l.op-index l.ops);
  legal : first_fault l.profile (cargo_in l.fn.stowage) 1 l.ops ≡ first_fault l.profile (cargo_in l.stowage) (l.op-index + 1) (drop l.op-index l.ops);
}
