use Rattle.std.proofs.Common.{◌≡◌, ◌≤◌, ◌<◌, ◌+◌, ◌-◌, ◌^◌, ℕ, length, set}
use Rattle.prefix_scan.specs.Rows.{lifted, first_row, row_at}
use Rattle.prefix_scan.proofs.tree_rows.replace.Given as goal

abbrev pub invariant-loop-row : goal.invariant-loop-row
invariant-loop-row g l =
    let op = g.M.Monoid.op in
    let old = first_row l.fn.rows in
    let new = set old l.i l.fn.value in
    record {
      below : (k : ℕ) → k < l.row-index → row_at l.rows k ≡ lifted op k new;
      above : (k : ℕ) → l.row-index ≤ k → row_at l.rows k ≡ row_at l.fn.rows k;
      here : lifted op l.row-index new ≡ set (lifted op l.row-index old) l.at l.value;
      at_within : l.at < length (lifted op l.row-index old);
      first : l.row-index ≡ 0 → l.at ≡ l.i;
      same_length : length l.rows ≡ length l.fn.rows;
      grows : l.fn.count ≤ l.count;
      cost : l.count ≤ l.fn.count + l.row-index;
      within : l.row-index ≤ length l.rows;
      counted : 0 < l.row-index → l.fn.count < 2 ^ 64 - 1 → l.fn.count < l.count;
    }
