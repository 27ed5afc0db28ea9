use Rattle.std.proofs.Common.{◌≡◌, ℕ, ◌<◌, ◌^◌, length}
use Rattle.units_core.specs.Interpolation.{at, IsWithin}
use Rattle.ship_tables.specs.Curves.{curve_at}
use Rattle.righting.proofs.cross_curves.crossing_at.Given as goal

abbrev pub invariant-loop-k : goal.invariant-loop-k
invariant-loop-k l = record {
  size : length l.lever ≡ 13;
  done : (j : ℕ) → j < l.k → at l.lever j ≡ (curve_at l.curves l.kg j l.i).top;
  within : IsWithin (10 ^ 14) l.lever;
}
