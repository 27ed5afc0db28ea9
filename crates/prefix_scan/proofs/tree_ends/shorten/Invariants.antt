use Rattle.std.proofs.Common.{◌≡◌, ◌≤◌, ◌<◌, ◌+◌, ◌*◌, ◌^◌, ℕ, length, take}
use Rattle.prefix_scan.specs.Rows.{lifted, first_row, row_at}
use Rattle.prefix_scan.proofs.tree_ends.shorten.Given as goal

abbrev pub invariant-up : goal.invariant-up
invariant-up g l =
    let op = g.M.Monoid.op in
    let old = first_row l.fn.rows.items in
    let new = take l.len old in
    record {
      below : (k : ℕ) → k < l.height → row_at l.rows.items k ≡ lifted op k new;
      above : (k : ℕ) → l.height ≤ k → row_at l.rows.items k ≡ row_at l.fn.rows.items k;
      here : lifted op l.height new ≡ take l.left (lifted op l.height old);
      fits : l.left ≤ length (lifted op l.height old);
      same_length : length l.rows.items ≡ length l.fn.rows.items;
      within : l.height ≤ length l.rows.items;
      tall : 2 ^ l.height ≤ 2 * l.len + 1;
      low : 2 ^ l.height * l.left ≤ l.len;
    }

abbrev pub decreases-up : goal.decreases-up
decreases-up g l = l.left
