use Rattle.std.proofs.Common.{◌≡◌, ◌+◌, ◌++◌, take, drop}
use Rattle.lift_sequence.specs.Singles.{handed, next_filling}
use Rattle.lift_sequence.proofs.singles.hand_on.Given as goal

-- no step from `from` on, before the place that the loop has reached, fills the tank
abbrev pub invariant-loop-place : goal.invariant-loop-place
invariant-loop-place l = record {
  same : l.steps ≡ l.fn.steps;
  passed : take l.from l.fn.steps ++ handed l.name l.out (drop l.from l.ops) (drop l.from l.fn.steps)
      ≡ take l.place l.fn.steps ++ handed l.name l.out (drop l.place l.ops) (drop l.place l.fn.steps);
  next : l.from + next_filling l.name (drop l.from l.ops) ≡ l.place + next_filling l.name (drop l.place l.ops);
}
