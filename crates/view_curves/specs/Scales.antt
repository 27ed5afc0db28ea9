-- Where a figure lies in a chart, in tenths of a pixel from its left and from its top, and rounded
-- down.
use Rattle.std.specs.Prelude.{ℕ, ◌+◌, ◌*◌, ◌-◌, ◌/◌, ◌^◌, ℤ, pos, ◌+ℤ◌, ◌-ℤ◌, ◌*ℤ◌, ◌≤ℤ◌, nat_lt}
use Rattle.std.specs.Prelude.{cond}
use Rattle.units_core.specs.Ratio.{◌over◌, floor_of}
use Rattle.view_curves.specs.declared.scales.Height.{Height}
use Rattle.view_curves.specs.declared.scales.Height.TheVariants.{Low, Tall}
use Rattle.view_curves.specs.declared.scales.Scale.{Scale}

-- a chart begins 14 pixels below its top, and is 136 or 196 high
abbrev pub tenths_of : Height → ℤ
tenths_of Low = pos 1360
tenths_of Tall = pos 1960

-- how far below the beginning a figure lies: the figure at the top less this one, by the span
abbrev pub place_in : Scale → ℤ → ℤ
place_in s v = floor_of (((s.high -ℤ v) *ℤ tenths_of s.height) over (s.high -ℤ s.low))

abbrev pub y_in : Scale → ℤ → ℤ
y_in s v = pos 140 +ℤ place_in s v

-- a figure in a chart whose span isn't beyond all measure
pub record IsInChart (s : Scale) (v : ℤ) : Type 0 where
  pub low : s.low ≤ℤ v
  pub high : v ≤ℤ s.high
  pub some : pos 1 ≤ℤ (s.high -ℤ s.low)
  pub span : (s.high -ℤ s.low) ≤ℤ pos (10 ^ 34)

-- the place of condition k, of n: 54 pixels from the left the first, and 520 further the last
abbrev pub x_of : ℕ → ℕ → ℕ
x_of k n = cond (nat_lt n 2) 540 (540 + k * 5200 / (n - 1))
