-- How a ship is judged with a sum of masses and moments aboard: the exact condition, and what is
-- said of it.
use Rattle.std.specs.Prelude.{ℕ, ℤ, Bool, true, false, Option, None, Some}
use Rattle.units_core.specs.Ratio.{Ratio}
use Rattle.ship_profile.specs.Record.{ProfileRecord}
use Rattle.ship_profile.specs.Ship.{ShipRecord}
use Rattle.moment_sums.specs.Sum.{Sum, Weight}
use Rattle.hydrostat.specs.Floating.{Hydrostatics, Load, draught_at, hydrostatics_at, load_of}
use Rattle.hydrostat.specs.declared.outside.Outside.{Outside}
use Rattle.hydrostat.specs.declared.outside.Outside.TheVariants as cause
use Rattle.righting.specs.Aboard.{levers_of}
use Rattle.strength.specs.Immersed.{areas_of}
use Rattle.strength.specs.Strains.{bending_at, closes, closing_of, shear_at}
use Rattle.criteria.specs.Criteria.{Condition, not_met}
use Rattle.criteria.specs.Least.{least_at}
use Rattle.criteria.specs.declared.criterion.Criterion.{Criterion}

-- outside of a table, for this cause; or a condition within all of them, and the first criterion
-- that it doesn't meet, if there is one
pub data Assessment : Type 0 where
  IsOutside : Outside → Assessment
  Fails : Criterion → Condition → Assessment
  Passes : Condition → Assessment

abbrev pub assessed : Option Criterion → Condition → Assessment
assessed None c = Passes c
assessed (Some criterion) c = Fails criterion c

-- Outside of the first table, in their order, in which the ship isn't: the hydrostatic table, the
-- cross curves, the Bonjean curves at each station, then the closing error, and last the least
-- metacentric heights. Within all of them, by the first criterion that doesn't hold.
abbrev pub with_least : ShipRecord → Hydrostatics → Load → (ℕ → Ratio) → ℤ → (ℕ → ℤ) → (ℕ → ℤ)
    → Option (Option Ratio) → Assessment
with_least ship w l y closing shear bending None = IsOutside cause.GmLimit
with_least ship w l y closing shear bending (Some least) =
    let c : Condition =
    record {
      water = w;
      load = l;
      levers = y;
      closing = closing;
      shear = shear;
      bending = bending;
      least_gm = least;
    } in
    assessed (not_met ship c) c

abbrev pub with_closing : ProfileRecord → Sum → Hydrostatics → (ℕ → Ratio) → (ℕ → ℤ) → Bool
    → Assessment
with_closing p s w y areas false = IsOutside cause.Closing
with_closing p s w y areas true =
    with_least p.ship w (load_of s) y (closing_of s areas p.ship.stations)
    (shear_at s areas p.ship.stations p.ship.frames)
    (bending_at s areas p.ship.stations p.ship.frames) (least_at p.tables.least_gm (s Weight))

abbrev pub with_areas : ProfileRecord → Sum → Hydrostatics → (ℕ → Ratio) → Option (ℕ → ℤ)
    → Assessment
with_areas p s w y None = IsOutside cause.Bonjean
with_areas p s w y (Some areas) =
    with_closing p s w y areas (closes (closing_of s areas p.ship.stations) p.ship.closing_max)

abbrev pub with_levers : ProfileRecord → Sum → Hydrostatics → Option (ℕ → Ratio) → Assessment
with_levers p s w None = IsOutside cause.Levers
with_levers p s w (Some y) =
    with_areas p s w y
    (areas_of p.tables.bonjean (draught_at w (load_of s) p.ship.lbp) p.ship.stations)

abbrev pub with_water : ProfileRecord → Sum → Option Hydrostatics → Assessment
with_water p s None = IsOutside cause.Hydro
with_water p s (Some w) = with_levers p s w (levers_of p.tables.levers s)

abbrev pub assessment_of : ProfileRecord → Sum → Assessment
assessment_of p s = with_water p s (hydrostatics_at p.tables.hydro (s Weight))
