use Rattle.std.proofs.Common.{◌≡◌, ◌≤◌, length, take}
use Rattle.std.specs.Vec.{vec_capacity}
use Rattle.step_edits.proofs.lists.copy_into.Given as goal

abbrev pub invariant-loop-op : goal.invariant-loop-op
invariant-loop-op l = record {
  list : l.list.items ≡ take l.op-index l.ops;
  room : length l.ops ≤ vec_capacity l.list;
  kept : vec_capacity l.initial.list ≤ vec_capacity l.list;
}
