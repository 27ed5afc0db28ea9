use Rattle.std.proofs.Common.{◌≡◌, take}
use Rattle.prefix_scan.specs.Rows.{paired}
use Rattle.prefix_scan.proofs.tree_rows.row_above.Given as goal

abbrev pub invariant-loop-k : goal.invariant-loop-k
invariant-loop-k g l = l.joined.items ≡ take l.k (paired g.M.Monoid.op l.row)
