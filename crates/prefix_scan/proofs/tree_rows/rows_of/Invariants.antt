use Rattle.std.proofs.Common.{◌≡◌, ◌≤◌, ◌<◌, ◌+◌, ◌*◌, ◌^◌, ℕ, length}
use Rattle.prefix_scan.specs.Rows.{lifted, row_at}
use Rattle.prefix_scan.proofs.tree_rows.rows_of.Given as goal

abbrev pub invariant-up : goal.invariant-up
invariant-up g l =
    let op = g.M.Monoid.op in
    record {
      each : (k : ℕ) → k < length l.rows.items → row_at l.rows.items k ≡ lifted op k l.fn.values.items;
      next : l.row.items ≡ lifted op (length l.rows.items) l.fn.values.items;
      tall : 2 ^ length l.rows.items ≤ 2 * length l.fn.values.items + 1;
      low : 2 ^ length l.rows.items * length l.row.items ≤ length l.fn.values.items;
    }

abbrev pub decreases-up : goal.decreases-up
decreases-up g l = length l.row.items
