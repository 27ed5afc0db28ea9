use Rattle.std.proofs.Common.{◌≡◌, ◌≢◌, ℕ, drop, length}
use Rattle.units_core.specs.Interpolation.{at}
use Rattle.worst_values.specs.Limits.{shears}
use Rattle.worst_values.specs.Rows.{row_of}
use Rattle.worst_values.specs.Worst.{joined, worst_of}
use Rattle.worst_values.proofs.noting.note_shears.Given as goal

abbrev pub invariant-loop-i : goal.invariant-loop-i
invariant-loop-i l = record {
  length : length l.rows ≡ length l.fn.rows;
  here : joined (row_of l.fn.rows l.row) (worst_of (shears (λ j. at l.shear j) l.step l.frames 0))
      ≡ joined (row_of l.rows l.row) (worst_of (shears (λ j. at l.shear j) l.step (drop l.i l.frames) l.i));
  others : (j : ℕ) → j ≢ l.row → row_of l.rows j ≡ row_of l.fn.rows j;
}
