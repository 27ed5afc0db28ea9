use Rattle.std.proofs.Common.{◌≡◌, ◌≤◌, ◌<◌, ◌+◌, ◌-◌, ◌*◌, ◌^◌, ◌++◌, ℕ, length, take, drop}
use Rattle.prefix_scan.specs.Rows.{lifted, first_row, row_at, IsWritten}
use Rattle.prefix_scan.proofs.tree_rows.replace_stretch.Given as goal

abbrev pub invariant-loop-row : goal.invariant-loop-row
invariant-loop-row g l =
    let m = g.M.Monoid in
    let old = first_row l.fn.rows in
    let new = take l.first old ++ l.fn.values ++ drop (l.first + length l.fn.values) old in
    record {
      below : (k : ℕ) → k < l.row-index → row_at l.rows k ≡ lifted m.op k new;
      above : (k : ℕ) → l.row-index ≤ k → row_at l.rows k ≡ row_at l.fn.rows k;
      here : IsWritten m.empty l.at l.len l.values (lifted m.op l.row-index old) (lifted m.op l.row-index new);
      within : l.at + l.len ≤ length (lifted m.op l.row-index old);
      more : 0 < l.len;
      some : l.len ≤ length l.values;
      same_length : length l.rows ≡ length l.fn.rows;
      up_to : l.row-index ≤ length l.rows;
      fewer : l.len ≤ length l.fn.values;
      first : l.row-index ≡ 0 → (l.at ≡ l.first) × (l.len ≡ length l.fn.values);
      grows : l.fn.count ≤ l.count;
      cost : l.count ≤ l.fn.count + length l.fn.values * l.row-index;
      counted : 0 < l.row-index → l.fn.count < 2 ^ 64 - 1 → l.fn.count < l.count;
    }
