use Rattle.std.proofs.Common.{◌≡◌, take}
use Rattle.std.specs.List.{filter_map}
use Rattle.lift_sequence.specs.Sequence.{op_of}
use Rattle.lift_sequence.proofs.operations.ops_of_rows.Given as goal

abbrev pub invariant-loop-row : goal.invariant-loop-row
invariant-loop-row l = l.ops.items ≡ filter_map (op_of l.lifts) (take l.row-index l.rows)
