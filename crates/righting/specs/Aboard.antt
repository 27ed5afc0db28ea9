-- The righting levers of what is aboard.
use Rattle.std.specs.Prelude.{◌≡◌, ℕ, ◌<◌, ℤ, pos, ◌+ℤ◌, Option, Some, None, option_map}
use Rattle.std.specs.Prelude.{MatchOption, Result, MatchResult, unsigned_abs}
use Rattle.units_core.specs.Interpolation.{at, interval}
use Rattle.units_core.specs.Ratio.{Ratio, ◌over◌}
use Rattle.ship_tables.specs.Record.{CurveTable}
use Rattle.moment_sums.specs.Sum.{Sum, Weight, MomentY, MomentZ, Surface}
use Rattle.hydrostat.specs.declared.outside.Outside.{Outside}
use Rattle.hydrostat.specs.declared.outside.Outside.TheVariants.{Levers as OutsideLevers}
use Rattle.righting.specs.declared.ordinates.Crossing.{Crossing}
use Rattle.righting.specs.declared.ordinates.Levers.{Levers}
use Rattle.righting.specs.Levers.{AreOrdinates, gz}
use Rattle.ship_tables.specs.Curves.{curve_at}

-- GZ at the k-th angle, by the cross curves in the i-th interval of their displacements
abbrev pub lever_in : CurveTable → Sum → ℕ → ℕ → Ratio
lever_in t s i k =
    gz (curve_at t (s Weight) k i) ((s MomentZ +ℤ s Surface) over s Weight)
    (pos (unsigned_abs (s MomentY)) over s Weight) k

-- none where the displacement lies outside of the table
abbrev pub levers_of : CurveTable → Sum → Option (ℕ → Ratio)
levers_of t s = option_map (lever_in t s) (interval t.arguments (s Weight))

-- the numbers are those of the curves at a displacement in the i-th interval
pub record IsCrossing (r : Crossing) (t : CurveTable) (w : ℤ) (i : ℕ) : Type 0 where
  pub kg : r.kg ≡ w
  pub levers : (k : ℕ) → k < 13 → (at r.lever k over r.gap) ≡ curve_at t w k i

-- the levers of a ship by these numbers, and by her moments about the keel (with the free surfaces)
-- and about the centre line
abbrev pub lever_by : Crossing → ℤ → ℤ → ℕ → Ratio
lever_by r upright side k =
    gz (at r.lever k over r.gap) (upright over r.kg) (pos (unsigned_abs side) over r.kg) k

-- the levers are these ordinates
abbrev pub AreLevers : Levers → Option (ℕ → Ratio) → Type 0
AreLevers l o = (y : ℕ → Ratio) × (o ≡ Some y) × AreOrdinates l.num l.den y

-- where there are ordinates, the levers are these, and there are none where there aren't
abbrev pub AreLeversIfAny : Option Levers → Option (ℕ → Ratio) → Type 0
AreLeversIfAny result o = MatchOption result (o ≡ None) (λ l. AreLevers l o)

-- the levers, or the table that the displacement lies outside of
abbrev pub AreLeversOf : Result Levers Outside → Option (ℕ → Ratio) → Type 0
AreLeversOf result o =
    MatchResult result (λ l. AreLevers l o) (λ outside. (outside ≡ OutsideLevers) × (o ≡ None))
