-- The least metacentric height that a ship may have at a displacement, where she has such limits.
use Rattle.std.specs.Prelude.{◌^◌, ◌≤◌, ℤ, unsigned_abs, Option, None, Some, IfSome, option_map}
use Rattle.units_core.specs.declared.fractions.Frac.{Frac}
use Rattle.units_core.specs.Interpolation.{interval}
use Rattle.units_core.specs.Ratio.{Ratio}
use Rattle.ship_tables.specs.Record.{CurveTable}
use Rattle.ship_tables.specs.Curves.{curve_at}

-- None where it lies outside of the table of a ship that has such limits
abbrev pub least_at : Option CurveTable → ℤ → Option (Option Ratio)
least_at None w = Some None
least_at (Some t) w = option_map (λ i. Some (curve_at t w 0 i)) (interval t.arguments w)

-- the sizes of one
abbrev pub IsLeast : Option Frac → Type 0
IsLeast o = IfSome o (λ f. (unsigned_abs f.num ≤ 10 ^ 14) × (unsigned_abs f.den ≤ 10 ^ 8))

abbrev pub AreLeast : Option (Option Frac) → Type 0
AreLeast o = IfSome o IsLeast
