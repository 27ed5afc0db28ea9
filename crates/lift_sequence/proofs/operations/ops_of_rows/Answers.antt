use Rattle.std.proofs.Common.{rules}
use Rattle.lift_sequence.specs.Sequence.{op_of}
use Rattle.lift_sequence.proofs.States.{filter_more}
use Rattle.lift_sequence.proofs.operations.ops_of_rows.Goals as goal
use Rattle.lift_sequence.proofs.operations.ops_of_rows.Goals.{in-Some+in_ok-push, in_default}

pub loop-row-preserved : goal.loop-row-preserved
loop-row-preserved c =
    filter_more (op_of c.args.lifts.now) c.args.rows.now c.loop-row.row-index c.row-item.result c.loop-row.ops.items c.match-op_of.ops.items c.op_of.result
    (search rules) (search rules) c.loop-row.invariant c.op_of.ensures
    (elim c.match-op_of.branch [ in-Some+in_ok-push w ↦ search rules | in_default w ↦ search rules ])
