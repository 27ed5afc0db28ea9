-- The curves of a table by their numbers.
use Rattle.std.specs.Prelude.{ℕ, ℤ, List, [], slice_index_or}
use Rattle.units_core.specs.Interpolation.{reading}
use Rattle.units_core.specs.Ratio.{Ratio}
use Rattle.ship_tables.specs.Record.{CurveTable}

-- the values of the k-th curve
abbrev pub curve : CurveTable → ℕ → List ℤ
curve t k = slice_index_or t.columns k []

-- its value at x, which lies in the i-th interval
abbrev pub curve_at : CurveTable → ℤ → ℕ → ℕ → Ratio
curve_at t x k i = reading t.arguments (curve t k) i x
