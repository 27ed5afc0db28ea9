use Rattle.std.proofs.Common.{◌≡◌, drop}
use Rattle.lift_sequence.specs.Singles.{held_behind}
use Rattle.lift_sequence.proofs.passing.held_behind.Given as goal

-- what is held behind all steps is told by those that the loop has yet to reach
abbrev pub invariant-loop-place : goal.invariant-loop-place
invariant-loop-place l = held_behind l.name l.fn.held l.ops l.steps ≡ held_behind l.name l.held (drop l.place l.ops) (drop l.place l.steps)
