use Rattle.std.proofs.Common.{◌≡◌, ℕ, ◌+◌, ◌-◌, ◌^◌, ◌<◌, ◌≤◌, length, get_or}
use Rattle.prefix_scan.specs.Rows.{paired}
use Rattle.prefix_scan.proofs.tree_rows.join_stretch.Given as goal

abbrev pub invariant-loop-k : goal.invariant-loop-k
invariant-loop-k g l = let m = g.M.Monoid in record {
  long : length l.values ≡ length l.fn.values;
  joined : (j : ℕ) → j < l.k → get_or l.values j m.empty ≡ get_or (paired m.op l.row) (l.at + j) m.empty;
  grows : l.fn.count ≤ l.count;
  cost : l.count ≤ l.fn.count + l.k;
  counted : 0 < l.k → l.fn.count < 2 ^ 64 - 1 → l.fn.count < l.count;
}
