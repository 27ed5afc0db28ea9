-- What is printed of a value by its limit, in whole units: the value, the limit, and the margin
-- between them.
use Rattle.std.specs.Prelude.{◌≡◌, ℕ, ℤ, pos, ◌*ℤ◌, ◌^◌, ◌≤ℤ◌, Option, None, Some}
use Rattle.units_core.specs.Ratio.{Ratio, ◌over◌, ◌⊖◌, floor_of}
use Rattle.fractions.specs.Rounded.{down, up}
use Rattle.view_figures.specs.declared.readings.Reading.{Reading}

-- of a value that has to be at least its limit
abbrev pub reading_at_least : Ratio → Ratio → Reading
reading_at_least v l = record { value = down v 1; limit = down l 1; margin = down (v ⊖ l) 1 }

-- of a value that may be at most its limit
abbrev pub reading_at_most : Ratio → Ratio → Reading
reading_at_most v l = record { value = up v 1; limit = up l 1; margin = down (l ⊖ v) 1 }

-- A thousandth of a millimetre degree is 17453292519943 / 10^21 metre-radians, by 13 digits of pi.
-- An area is rounded down to thousandths, and these to ten-thousandths of a metre-radian.
abbrev pub in_radians : ℤ → ℤ
in_radians t = floor_of ((t *ℤ pos 17453292519943) over pos (10 ^ 17))

-- the figures of an area in thousandths of a millimetre degree as they are printed
abbrev pub area_in_print : Reading → Reading
area_in_print r = record {
  value = in_radians r.value;
  limit = in_radians r.limit;
  margin = in_radians r.margin;
}

-- how much of a limit is used, in percent, up to 999
abbrev pub IsPercent : Option ℕ → Ratio → Type 0
IsPercent None r = pos 1000 ≤ℤ up r 100
IsPercent (Some p) r = (pos p ≡ up r 100) × (pos p ≤ℤ pos 999)
