-- The loads on the hull of a ship: at each of her frames what lies aft of it, less the buoyancy aft
-- of it.
use Rattle.std.specs.Prelude.{ℕ, ◌-◌, ℤ, pos, neg_ℤ, ◌-ℤ◌, List, length, slice_get, Option, None}
use Rattle.std.specs.Prelude.{Some, int_le, Bool, ◌&&◌}
use Rattle.units_core.specs.Interpolation.{at}
use Rattle.units_core.specs.Ratio.{floor_of}
use Rattle.units_core.specs.declared.frames.Frame.{Frame}
use Rattle.moment_sums.specs.Sum.{Sum, Weight, WeightAft, MomentAft}
use Rattle.strength.specs.Buoyancy.{force_of, intervals_aft, moment_of_buoyancy}

-- the shear force in kg, and the bending moment in kg mm, hogging positive, at the i-th frame; 0
-- where there is no such frame
abbrev pub shear_there : Sum → (ℕ → ℤ) → List ℤ → ℕ → Option Frame → ℤ
shear_there s areas stations i None = pos 0
shear_there s areas stations i (Some frame) =
    s (WeightAft i) -ℤ floor_of (force_of (at stations) areas (intervals_aft stations frame.x))

abbrev pub shear_at : Sum → (ℕ → ℤ) → List ℤ → List Frame → ℕ → ℤ
shear_at s areas stations frames i = shear_there s areas stations i (slice_get frames i)

abbrev pub bending_there : Sum → (ℕ → ℤ) → List ℤ → ℕ → Option Frame → ℤ
bending_there s areas stations i None = pos 0
bending_there s areas stations i (Some frame) =
    s (MomentAft i) -ℤ floor_of
    (moment_of_buoyancy (at stations) areas frame.x (intervals_aft stations frame.x))

abbrev pub bending_at : Sum → (ℕ → ℤ) → List ℤ → List Frame → ℕ → ℤ
bending_at s areas stations frames i = bending_there s areas stations i (slice_get frames i)

-- the closing error in kg: the buoyancy of all intervals less the displacement
abbrev pub closing_of : Sum → (ℕ → ℤ) → List ℤ → ℤ
closing_of s areas stations =
    floor_of (force_of (at stations) areas (length stations - 1)) -ℤ s Weight

-- it is within its limit either way
abbrev pub closes : ℤ → ℤ → Bool
closes error most = int_le (neg_ℤ most) error && int_le error most
