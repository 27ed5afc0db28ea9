use Rattle.prefix_scan.specs.Rows.{IsWritten}
use Rattle.prefix_scan.proofs.tree_rows.put_stretch.Given as goal

abbrev pub invariant-loop-k : goal.invariant-loop-k
invariant-loop-k g l = IsWritten g.M.Monoid.empty l.at l.k l.values l.fn.row l.row
