use Rattle.std.proofs.Common.{take}
use Rattle.std.specs.List.{AllByRecursion}
use Rattle.lift_sequence.specs.Sequence.{IsLight}
use Rattle.lift_sequence.proofs.sequences.ops_are_light.Given as goal

abbrev pub invariant-loop-op : goal.invariant-loop-op
invariant-loop-op l = AllByRecursion IsLight (take l.op-index l.ops)
