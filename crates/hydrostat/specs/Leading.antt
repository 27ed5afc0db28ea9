-- Bookkeeping: the draught along a ship is a straight line, (base - step x) / divisor; and its
-- numbers in whole units.
use Rattle.std.specs.Prelude.{◌^◌, ◌≤◌, ℕ, ℤ, pos, neg_ℤ, unsigned_abs, ◌+ℤ◌, ◌-ℤ◌, ◌*ℤ◌, ◌≤ℤ◌}
use Rattle.std.specs.Prelude.{◌<ℤ◌}
use Rattle.hydrostat.specs.declared.particulars.Afloat.{Afloat}

abbrev pub trim_top : Afloat → ℤ
trim_top a = (a.lcb *ℤ a.kg) -ℤ (a.x *ℤ a.gap)

abbrev pub line_base : Afloat → ℤ
line_base a = ((a.draught *ℤ a.mct) *ℤ a.lbp) +ℤ (trim_top a *ℤ (a.lcf -ℤ (pos 0 *ℤ a.gap)))

abbrev pub line_step : Afloat → ℤ
line_step a = trim_top a *ℤ a.gap

abbrev pub line_divisor : Afloat → ℤ
line_divisor a = (a.gap *ℤ a.mct) *ℤ a.lbp

-- a number in whole units, rounded down
pub record IsInUnits (high unit whole : ℤ) : Type 0 where
  pub low : pos 0 ≤ℤ (whole -ℤ (high *ℤ unit))
  pub rest : (whole -ℤ (high *ℤ unit)) <ℤ unit

-- the line's numbers in units of 2^shift
pub record IsLedBy (shift : ℕ) (base step divisor : ℤ) (a : Afloat) : Type 0 where
  pub is_base : IsInUnits base (pos (2 ^ shift)) (line_base a)
  pub is_step : IsInUnits step (pos (2 ^ shift)) (line_step a)
  pub is_divisor : IsInUnits divisor (pos (2 ^ shift)) (line_divisor a)

-- a guess of number / divisor in parts of 2^40, at most so many parts off
pub record IsNear (guess number divisor most : ℤ) : Type 0 where
  pub low : neg_ℤ (most *ℤ divisor) ≤ℤ ((guess *ℤ divisor) -ℤ (number *ℤ pos (2 ^ 40)))
  pub high : ((guess *ℤ divisor) -ℤ (number *ℤ pos (2 ^ 40))) ≤ℤ (most *ℤ divisor)

-- the line in parts of 2^40, about start - slope x
pub record IsScaled (start slope base step divisor : ℤ) : Type 0 where
  pub start_within : unsigned_abs start ≤ 2 ^ 58
  pub slope_within : unsigned_abs slope ≤ 2 ^ 38
  pub divisor_low : pos (2 ^ 39) ≤ℤ divisor
  pub is_start : IsNear start base divisor (pos 128)
  pub is_slope : IsNear slope step divisor (pos 2)

-- numbers of a line in units that are so small that their products fit 64 bits
pub record IsShort (base step divisor : ℤ) : Type 0 where
  pub base_within : unsigned_abs base ≤ 2 ^ 61
  pub step_within : unsigned_abs step ≤ 2 ^ 40
  pub divisor_within : unsigned_abs divisor ≤ 2 ^ 41

-- q is the whole part of top / divisor, and so far from the whole numbers on both sides that
-- rounding to units, of the base and of a million times the step and the divisor, changes nothing
pub record IsSure (q top divisor : ℤ) : Type 0 where
  pub within : unsigned_abs q ≤ 10 ^ 6
  pub above : pos 2000002 ≤ℤ (top -ℤ (q *ℤ divisor))
  pub below : ((top -ℤ (q *ℤ divisor)) +ℤ pos 2000002) ≤ℤ divisor
