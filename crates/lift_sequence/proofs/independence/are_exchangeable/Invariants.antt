use Rattle.std.proofs.Common.{◌≡◌, ◌<◌, ℕ, true}
use Rattle.lift_sequence.specs.Independent.{independent_at}
use Rattle.lift_sequence.proofs.independence.are_exchangeable.Given as goal

-- the steps that are passed are independent of both
abbrev pub invariant-loop-k : goal.invariant-loop-k
invariant-loop-k l = record {
  first : (k : ℕ) → l.i < k → k < l.k → independent_at l.ops l.i k ≡ true;
  last : (k : ℕ) → l.i < k → k < l.k → independent_at l.ops l.j k ≡ true;
}
