use Rattle.std.proofs.Common.{◌≡◌, ℕ, ◌<◌, ◌≤◌, length}
use Rattle.units_core.specs.Interpolation.{at}
use Rattle.hydrostat.specs.Floating.{draught_at, load, water}
use Rattle.strength.specs.Immersed.{IsAreaAt}
use Rattle.strength.proofs.immersed.set_areas_in_row.Given as goal

abbrev pub invariant-loop-k : goal.invariant-loop-k
invariant-loop-k l = record {
  size : length l.areas ≡ 64;
  from : l.from ≤ l.k;
  before : (j : ℕ) → j < l.from → at l.areas j ≡ at l.fn.areas j;
  set : (j : ℕ) → l.from ≤ j → j < l.k
      → IsAreaAt (at l.areas j) l.profile.tables.bonjean (draught_at (water l.line.of) (load l.line.of) l.line.of.lbp) l.profile.ship.stations j;
}
