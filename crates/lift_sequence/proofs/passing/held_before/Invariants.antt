use Rattle.std.proofs.Common.{◌≡◌, drop}
use Rattle.lift_sequence.specs.Singles.{held_before}
use Rattle.lift_sequence.proofs.passing.held_before.Given as goal

-- no step before the place that the loop has reached fills the tank
abbrev pub invariant-loop-place : goal.invariant-loop-place
invariant-loop-place l = held_before l.name l.held l.ops l.steps ≡ held_before l.name l.held (drop l.place l.ops) (drop l.place l.steps)
