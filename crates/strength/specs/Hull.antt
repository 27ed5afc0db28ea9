-- Bookkeeping: what the loads take of a ship's profile alone.
use Rattle.std.specs.Prelude.{◌≡◌, ℕ, ◌-◌, ◌*◌, ◌^◌, ◌<◌, ◌≤◌, ℤ, pos, ◌+ℤ◌, ◌-ℤ◌, ◌*ℤ◌, List}
use Rattle.std.specs.Prelude.{length, get_or, slice_get, IfSome, unsigned_abs}
use Rattle.units_core.specs.Interpolation.{at}
use Rattle.units_core.specs.declared.frames.Frame.{Frame}
use Rattle.ship_profile.specs.Ship.{ShipRecord}
use Rattle.ship_profile.specs.declared.sections.StationWeight.{StationWeight}
use Rattle.strength.specs.Buoyancy.{intervals_aft}

-- how many intervals between stations lie aft of each frame, and by what the area at the station
-- that ends the last of them counts there
pub record HullRecord : Type 0 where
  pub aft : List ℕ
  pub weights : List StationWeight

abbrev pub no_weight : StationWeight
no_weight = record { volume = pos 0; moment = pos 0 }

-- the sizes of such weights
pub record AreWithin (weights : List StationWeight) : Type 0 where
  pub volumes : (i : ℕ) → unsigned_abs (get_or weights i no_weight).volume ≤ 2 * 10 ^ 6
  pub moments : (i : ℕ) → unsigned_abs (get_or weights i no_weight).moment ≤ 12 * 10 ^ 12

pub record IsHull (aft : List ℕ) (weights : List StationWeight) : Type 0 where
  pub few : (i : ℕ) → get_or aft i 0 ≤ 63
  pub within : AreWithin weights

-- By what the area at the n-th station counts in the interval aft of it: in twice its volume, and
-- in six times the moment of its volume. Aft of the first station there is none.
abbrev pub weight_aft : (ℕ → ℤ) → ℕ → StationWeight
weight_aft xs n = record {
  volume = xs n -ℤ xs (n - 1);
  moment = (xs n -ℤ xs (n - 1)) *ℤ ((pos 2 *ℤ xs n) +ℤ xs (n - 1));
}

-- how many intervals lie aft of each frame
abbrev pub AreAft : List ℕ → List ℤ → List Frame → Type 0
AreAft aft stations frames = (i : ℕ)
    → IfSome (slice_get frames i) (λ frame. get_or aft i 0 ≡ intervals_aft stations frame.x)

-- it is that of a ship
pub record IsHullOf (h : HullRecord) (ship : ShipRecord) : Type 0 where
  pub aft : AreAft h.aft ship.stations ship.frames
  pub inside : (i : ℕ) → get_or h.aft i 0 < length ship.stations
  pub weights : (i : ℕ) → i < 16
      → get_or h.weights i no_weight ≡ weight_aft (at ship.stations) (get_or h.aft i 0)
