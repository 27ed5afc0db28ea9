use Rattle.std.proofs.Common.{◌≡◌, ◌<◌, ◌≤◌, ℕ, length}
use Rattle.units_core.specs.Ratio.{Ratio}
use Rattle.criteria.specs.Exact.{condition_by}
use Rattle.criteria.specs.Measures.{AreMeasures}
use Rattle.worst_values.specs.Limits.{candidates_of, limit_of}
use Rattle.worst_values.specs.Rows.{row_of}
use Rattle.worst_values.specs.Worst.{joined, worst_of}
use Rattle.worst_values.proofs.walks.note_condition.Given as goal

abbrev pub invariant-loop-row : goal.invariant-loop-row
invariant-loop-row l = record {
  length : length l.rows ≡ length l.fn.rows;
  done : (y : ℕ → Ratio) → AreMeasures l.exact.curve y → (j : ℕ) → j < l.row
      → row_of l.rows j ≡ joined (row_of l.fn.rows j) (worst_of (candidates_of l.profile.ship (condition_by l.exact y l.strains) (limit_of j) l.step));
  rest : (j : ℕ) → l.row ≤ j → row_of l.rows j ≡ row_of l.fn.rows j;
}
