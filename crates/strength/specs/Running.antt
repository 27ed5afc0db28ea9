-- Bookkeeping: sums along the stations before each of them, and the loads by them.
use Rattle.std.specs.Prelude.{◌≡◌, ℕ, ◌*◌, ◌^◌, ◌<◌, ◌≤◌, ℤ, ◌*ℤ◌, List, Bool, true, false, Option}
use Rattle.std.specs.Prelude.{Some, None, unsigned_abs}
use Rattle.units_core.specs.Interpolation.{at}
use Rattle.ship_profile.specs.Sections.{station_weight}
use Rattle.ship_profile.specs.Ship.{ShipRecord}
use Rattle.moment_sums.specs.Sum.{Sum}
use Rattle.strength.specs.Buoyancy.{tops}
use Rattle.strength.specs.Strains.{bending_at, closing_of, shear_at}
use Rattle.strength.specs.declared.loads.Strains.{Strains}

-- the areas at the first n stations, by the areas that there are, or that there are none
pub record AreAreas (areas : List ℤ) (ys : ℕ → ℤ) (n : ℕ) : Type 0 where
  pub are : (k : ℕ) → k < n → at areas k ≡ ys k
  pub within : (k : ℕ) → k < n → unsigned_abs (at areas k) ≤ 10 ^ 8

abbrev pub AreAreasBy : List ℤ → Option (ℕ → ℤ) → ℕ → Type 0
AreAreasBy areas None n = ⊥
AreAreasBy areas (Some ys) n = AreAreas areas ys n

abbrev pub AreAreasIf : Bool → List ℤ → Option (ℕ → ℤ) → ℕ → Type 0
AreAreasIf true areas ys n = AreAreasBy areas ys n
AreAreasIf false areas ys n = ys ≡ None

-- Of the stations before the k-th, k up to n: their areas by what they count in twice a volume, and
-- by what they count in six times its moment about the after perpendicular, each added up.
pub record AreSums (areas volumes moments : List ℤ) (xs : ℕ → ℤ) (n : ℕ) : Type 0 where
  pub areas_within : (k : ℕ) → k ≤ n → unsigned_abs (at areas k) ≤ 10 ^ 8
  pub are_volumes : (k : ℕ) → k ≤ n
      → at volumes k ≡ tops (λ j. at areas j *ℤ (station_weight xs j).volume) k
  pub volumes_within : (k : ℕ) → k ≤ n → unsigned_abs (at volumes k) ≤ 2 * 10 ^ 16
  pub are_moments : (k : ℕ) → k ≤ n
      → at moments k ≡ tops (λ j. at areas j *ℤ (station_weight xs j).moment) k
  pub moments_within : (k : ℕ) → k ≤ n → unsigned_abs (at moments k) ≤ 9 * 10 ^ 22

-- the loads and the closing error, by the areas at the stations
pub record AreStrains (r : Strains) (s : Sum) (areas : ℕ → ℤ) (ship : ShipRecord) : Type 0 where
  pub are_shear : (i : ℕ) → at r.shear i ≡ shear_at s areas ship.stations ship.frames i
  pub are_bending : (i : ℕ) → at r.bending i ≡ bending_at s areas ship.stations ship.frames i
  pub is_closing : r.closing ≡ closing_of s areas ship.stations

-- by the areas, which there are
abbrev pub AreStrainsBy : Strains → Sum → Option (ℕ → ℤ) → ShipRecord → Type 0
AreStrainsBy r s None ship = ⊥
AreStrainsBy r s (Some areas) ship = AreStrains r s areas ship

-- or none, where there are no areas
abbrev pub AreStrainsIf : Bool → Strains → Sum → Option (ℕ → ℤ) → ShipRecord → Type 0
AreStrainsIf true r s areas ship = AreStrainsBy r s areas ship
AreStrainsIf false r s areas ship = areas ≡ None
