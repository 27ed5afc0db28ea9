-- The loads on a ship's hull, or the table or the limit that they lie outside of.
use Rattle.std.specs.Prelude.{◌≡◌, ℕ, ℤ, length, map, Bool, true, false, Option, Some, None, Result}
use Rattle.std.specs.Prelude.{Ok, Err}
use Rattle.std.specs.List.{range_with_len}
use Rattle.ship_profile.specs.Ship.{ShipRecord}
use Rattle.ship_profile.specs.Record.{ProfileRecord}
use Rattle.moment_sums.specs.Sum.{Sum, Weight}
use Rattle.hydrostat.specs.Floating.{Hydrostatics, load_of, hydrostatics_at}
use Rattle.hydrostat.specs.Figures.{IsFloatingOf}
use Rattle.hydrostat.specs.declared.figures.Floating.{Floating}
use Rattle.hydrostat.specs.declared.outside.Outside.{Outside}
use Rattle.hydrostat.specs.declared.outside.Outside.TheVariants.{Bonjean, Closing}
use Rattle.strength.specs.Immersed.{areas_along}
use Rattle.strength.specs.Running.{AreStrains}
use Rattle.strength.specs.Strains.{bending_at, closes, closing_of, shear_at}
use Rattle.strength.specs.declared.loads.FrameLoad.{FrameLoad}
use Rattle.strength.specs.declared.loads.Loads.{Loads}
use Rattle.strength.specs.declared.loads.Strains.{Strains}

-- the loads at the first `frames` frames in their order, by the shear force and the bending moment
-- at each, and the closing error
abbrev pub frame_load : (ℕ → ℤ) → (ℕ → ℤ) → ℕ → FrameLoad
frame_load shear bending i = record { shear = shear i; bending = bending i }

pub record AreLoadsAt (l : Loads) (shear bending : ℕ → ℤ) (frames : ℕ) (closing : ℤ) : Type 0 where
  pub are_frames : l.frames.items ≡ map (frame_load shear bending) (range_with_len 0 frames)
  pub is_closing : l.closing ≡ closing

-- those of a ship, by the areas at the stations
abbrev pub AreLoads : Loads → Sum → (ℕ → ℤ) → ShipRecord → Type 0
AreLoads l s areas ship =
    AreLoadsAt l (shear_at s areas ship.stations ship.frames)
    (bending_at s areas ship.stations ship.frames) (length ship.frames)
    (closing_of s areas ship.stations)

-- an answer that is so where the closing error is within the ship's limit; else the cause
abbrev pub IsClosed : {X : Type 0} → Result X Outside → (X → Type 0) → Bool → Type 0
IsClosed (Ok x) is true = is x
IsClosed (Ok x) is false = ⊥
IsClosed (Err outside) is true = ⊥
IsClosed (Err outside) is false = outside ≡ Closing

-- by the areas, where the Bonjean table has all of them
abbrev pub IsAlong : {X : Type 0} → Result X Outside → (X → (ℕ → ℤ) → Type 0) → Sum
    → Option (ℕ → ℤ) → ShipRecord → Type 0
IsAlong result is s (Some areas) ship =
    IsClosed result (λ x. is x areas) (closes (closing_of s areas ship.stations) ship.closing_max)
IsAlong (Ok x) is s None ship = ⊥
IsAlong (Err outside) is s None ship = outside ≡ Bonjean

abbrev pub AreLoadsBy : Result Loads Outside → Sum → Option (ℕ → ℤ) → ShipRecord → Type 0
AreLoadsBy result s areas ship = IsAlong result (λ l areas. AreLoads l s areas ship) s areas ship

-- the relation between the numbers from which the loads are made
abbrev pub AreStrainsOr : Result Strains Outside → Sum → Option (ℕ → ℤ) → ShipRecord → Type 0
AreStrainsOr result s areas ship =
    IsAlong result (λ r areas. AreStrains r s areas ship) s areas ship

-- with this aboard of a ship, by its hydrostatics; without these there are no loads
abbrev pub AreLoadsOn : Result Loads Outside → ProfileRecord → Sum → Option Hydrostatics → Type 0
AreLoadsOn result p s (Some w) = AreLoadsBy result s (areas_along p w (load_of s) p.ship.lbp) p.ship
AreLoadsOn result p s None = ⊥

abbrev pub AreLoadsOf : Result Loads Outside → ProfileRecord → Sum → Type 0
AreLoadsOf result p s = AreLoadsOn result p s (hydrostatics_at p.tables.hydro (s Weight))

-- the figures are those of the ship with this aboard
abbrev pub IsFloatingWith : Floating → ProfileRecord → Sum → Type 0
IsFloatingWith f p s =
    IsFloatingOf (Ok f) (hydrostatics_at p.tables.hydro (s Weight)) (load_of s) p.ship.lbp
