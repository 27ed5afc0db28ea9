use Rattle.std.proofs.Common.{◌≡◌, ◌≤◌, ◌<◌, ◌++◌, [], ◌∷◌, ℕ, length}
use Rattle.prefix_scan.specs.Rows.{lifted, first_row, row_at, spare_at}
use Rattle.prefix_scan.proofs.tree_ends.push_up.Given as goal

abbrev pub invariant-loop-row : goal.invariant-loop-row
invariant-loop-row g l =
    let op = g.M.Monoid.op in
    let old = first_row l.fn.rows in
    let new = old ++ l.fn.value ∷ [] in
    record {
      below : (k : ℕ) → k < l.row-index → row_at l.rows k ≡ lifted op k new;
      above : (k : ℕ) → l.row-index ≤ k → row_at l.rows k ≡ row_at l.fn.rows k;
      room : (k : ℕ) → l.row-index ≤ k → k < length l.rows → 0 < spare_at l.rows k;
      here : lifted op l.row-index new ≡ lifted op l.row-index old ++ l.value ∷ [];
      same_length : length l.rows ≡ length l.fn.rows;
      within : l.row-index ≤ length l.rows;
    }
