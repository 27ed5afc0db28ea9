use Rattle.std.proofs.Common.{◌≡◌, ◌≤◌, ◌+◌, length, sum_by}
use Rattle.parallel_tests.proofs.scans.trees.agrees_after_each_set.Given as goal

abbrev pub invariant-loop-i : goal.invariant-loop-i
invariant-loop-i l = (l.tree.values ≡ l.values.items) × (length l.values.items ≡ l.n) × (sum_by (λ x. x.parts) l.values.items ≤ l.n + l.i)
