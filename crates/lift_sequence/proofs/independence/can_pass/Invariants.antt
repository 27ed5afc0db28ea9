use Rattle.std.proofs.Common.{◌≡◌, ◌<◌, ◌≤◌, ℕ, true}
use Rattle.lift_sequence.specs.Independent.{independent_at}
use Rattle.lift_sequence.proofs.independence.can_pass.Given as goal

-- the steps that are passed behind it, and those before it
abbrev pub invariant-loop-k : goal.invariant-loop-k
invariant-loop-k l = (k : ℕ) → l.i < k → k < l.k → independent_at l.ops l.i k ≡ true

abbrev pub invariant-loop-k-2 : goal.invariant-loop-k-2
invariant-loop-k-2 l = record {
  forth : (k : ℕ) → l.i < k → k ≤ l.j → independent_at l.ops l.i k ≡ true;
  back : (k : ℕ) → l.j ≤ k → k < l.k → independent_at l.ops l.i k ≡ true;
}
