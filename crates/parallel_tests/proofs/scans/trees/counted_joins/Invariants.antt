use Rattle.std.proofs.Common.{◌≡◌, ◌≤◌, ◌+◌, length, sum_by}
use Rattle.parallel_tests.proofs.scans.trees.counted_joins.Given as goal

abbrev pub invariant-loop-k : goal.invariant-loop-k
invariant-loop-k g l = (length l.tree.values ≡ 60000) × (sum_by (λ x. x.parts) l.tree.values ≤ 60000 + l.k)
