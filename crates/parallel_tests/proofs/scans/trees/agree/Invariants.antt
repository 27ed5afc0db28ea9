use Rattle.std.proofs.Common.{◌≡◌}
use Rattle.parallel_tests.proofs.scans.trees.agree.Given as goal

abbrev pub invariant-loop-i : goal.invariant-loop-i
invariant-loop-i g l = (g.A.Prefixes.values l.left ≡ g.A.Prefixes.values l.fn.left) × (g.B.Prefixes.values l.right ≡ g.B.Prefixes.values l.fn.right)
