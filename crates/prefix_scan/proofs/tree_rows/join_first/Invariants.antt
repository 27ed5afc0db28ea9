use Rattle.std.proofs.Common.{ℕ, ◌<◌, ◌≤◌, ◌+◌, ◌-◌, ◌^◌, length, take}
use Rattle.std.specs.List.{fold}
use Rattle.prefix_scan.specs.Rows.{lifted, first_row}
use Rattle.prefix_scan.proofs.ReachLemmas.{Reached}
use Rattle.prefix_scan.proofs.tree_rows.join_first.Given as goal

abbrev pub invariant-loop-row : goal.invariant-loop-row
invariant-loop-row g l =
    let m = g.M.Monoid in
    record {
      reached : Reached g.met.M.Monoid.laws (lifted m.op l.row-index (first_row l.rows)) l.at l.after (fold m.op m.empty (take l.i (first_row l.rows)));
      grows : l.fn.count ≤ l.count;
      cost : l.count ≤ l.fn.count + l.row-index;
      few : (k : ℕ) → l.i < 2 ^ k → (l.at < 2 ^ (k - l.row-index)) × (l.count ≤ l.fn.count + k);
      within : l.row-index ≤ length l.rows;
      counted : 0 < l.i → l.fn.count < 2 ^ 64 - 1 → 0 < l.at + (l.count - l.fn.count);
    }
