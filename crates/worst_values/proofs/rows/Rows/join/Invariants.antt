use Rattle.std.proofs.Common.{◌≡◌, ◌<◌, ◌≤◌, ℕ, length}
use Rattle.worst_values.specs.Worst.{joined}
use Rattle.worst_values.specs.Rows.{row_of}
use Rattle.worst_values.proofs.rows.Rows.join.Given as goal

abbrev pub invariant-loop-row : goal.invariant-loop-row
invariant-loop-row l = record {
  length : length l.self ≡ length l.fn.self;
  done : (j : ℕ) → j < l.row → row_of l.self j ≡ joined (row_of l.fn.self j) (row_of l.behind j);
  rest : (j : ℕ) → l.row ≤ j → row_of l.self j ≡ row_of l.fn.self j;
}
