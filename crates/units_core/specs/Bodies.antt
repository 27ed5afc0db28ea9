-- A body aboard, as the sums over a ship's masses see it.
use Rattle.std.specs.Prelude.{ℕ, ◌≤◌, ◌^◌, ℤ, pos, ◌≤ℤ◌}
use Rattle.units_core.specs.declared.bodies.Place.{Place}

-- A mass in kg at a place, and the moment in kg mm by which its free surface raises the centre of
-- gravity.
pub record Mass : Type 0 where
  pub kg : ℕ
  pub place : Place
  pub fsm : ℤ

pub record IsWithinLimits (kg : ℕ) (fsm : ℤ) : Type 0 where
  pub kg_high : kg ≤ 10 ^ 9
  pub fsm_low : pos 0 ≤ℤ fsm
  pub fsm_high : fsm ≤ℤ pos (10 ^ 12)
