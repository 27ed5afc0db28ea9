use Rattle.std.proofs.Common.{◌≡◌, length, sum_by}
use Rattle.parallel_tests.proofs.scans.trees.first_values.Given as goal

abbrev pub invariant-loop-k : goal.invariant-loop-k
invariant-loop-k l = (length l.values.items ≡ l.k) × (sum_by (λ x. x.parts) l.values.items ≡ l.k)
