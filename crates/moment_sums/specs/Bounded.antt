-- The sums that the bodies of a ship can have, value by value: no mass is negative, no centre is
-- more than a kilometre away, aft of each frame there is no more mass than there is, nor further
-- than two kilometres, and the free surface moments are at most 2 * 10^14 kg mm.
use Rattle.std.specs.Prelude.{ℕ, ◌*◌, ◌^◌, ◌≤◌, pos, ◌≤ℤ◌, unsigned_abs}
use Rattle.moment_sums.specs.Sum.{Sum, Weight, MomentX, MomentY, MomentZ, Surface, WeightAft}
use Rattle.moment_sums.specs.Sum.{MomentAft}

pub record IsBounded (s : Sum) : Type 0 where
  pub kg : pos 0 ≤ℤ s Weight
  pub x : unsigned_abs (s MomentX) ≤ 10 ^ 6 * unsigned_abs (s Weight)
  pub y : unsigned_abs (s MomentY) ≤ 10 ^ 6 * unsigned_abs (s Weight)
  pub z : unsigned_abs (s MomentZ) ≤ 10 ^ 6 * unsigned_abs (s Weight)
  pub fsm_low : pos 0 ≤ℤ s Surface
  pub fsm_high : s Surface ≤ℤ pos (2 * 10 ^ 14)
  pub weights_low : (i : ℕ) → pos 0 ≤ℤ s (WeightAft i)
  pub weights_high : (i : ℕ) → s (WeightAft i) ≤ℤ s Weight
  pub moments_low : (i : ℕ) → pos 0 ≤ℤ s (MomentAft i)
  pub moments_high : (i : ℕ) → unsigned_abs (s (MomentAft i)) ≤ 2 * 10 ^ 6 * unsigned_abs (s Weight)
