use Rattle.std.proofs.Common.{◌≡◌, ◌++◌, length, take, drop}
use Rattle.lift_sequence.specs.Follow.{steps_weighed}
use Rattle.lift_sequence.proofs.sequences.weigh_moves.Given as goal

-- the steps done, followed by the others with what is left to do, are the list that was to be made
abbrev pub invariant-loop-place : goal.invariant-loop-place
invariant-loop-place l = record {
  as_many : length l.steps ≡ length l.ops;
  comes_to : take l.place l.steps ++ steps_weighed l.kg l.cell (drop l.place l.ops) (drop l.place l.steps)
      ≡ take l.fn.first l.fn.steps ++ steps_weighed l.kg l.fn.cell (drop l.fn.first l.ops) (drop l.fn.first l.fn.steps);
}
