use Rattle.std.proofs.Common.{◌≤◌, ◌<◌, ℕ, length}
use Rattle.prefix_scan.specs.Rows.{AreSameRows, spare_at}
use Rattle.prefix_scan.proofs.tree_ends.make_room.Given as goal

abbrev pub invariant-loop-row : goal.invariant-loop-row
invariant-loop-row g l = record {
  same : AreSameRows l.fn.rows l.rows;
  room : (k : ℕ) → k < l.row-index → 0 < spare_at l.rows k;
  within : l.row-index ≤ length l.rows;
}
