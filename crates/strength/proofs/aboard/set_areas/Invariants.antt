use Rattle.std.proofs.Common.{◌≡◌, ◌-◌, ℕ, ◌<◌, ◌≤◌, length}
use Rattle.units_core.specs.Interpolation.{at}
use Rattle.hydrostat.specs.Floating.{draught_at, load, water}
use Rattle.strength.specs.Immersed.{IsAreaAt}
use Rattle.strength.specs.Rows.{IsRowOf}
use Rattle.strength.proofs.aboard.set_areas.Given as goal

abbrev pub invariant-loop-k : goal.invariant-loop-k
invariant-loop-k l = record {
  row : IsRowOf l.profile.tables.bonjean l.row.number l.row.lower l.row.upper l.row.lines.now;
  areas_size : length l.walk.areas ≡ 64;
  most : l.k ≤ length l.profile.ship.stations;
  set : (j : ℕ) → j < l.k
      → IsAreaAt (at l.walk.areas j) l.profile.tables.bonjean (draught_at (water l.line.of) (load l.line.of) l.line.of.lbp) l.profile.ship.stations j;
}

abbrev pub decreases-loop-k : goal.decreases-loop-k
decreases-loop-k l = length l.stations - l.k
