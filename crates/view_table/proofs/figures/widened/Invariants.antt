use Rattle.std.proofs.Common.{◌≡◌, ℕ, ◌<◌, length}
use Rattle.units_core.specs.Interpolation.{at}
use Rattle.view_table.proofs.figures.widened.Given as goal

abbrev pub invariant-loop-i : goal.invariant-loop-i
invariant-loop-i l = record {
  size : length l.wide ≡ 16;
  done : (k : ℕ) → k < l.i → at l.wide k ≡ at l.loads k;
}
