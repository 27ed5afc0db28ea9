-- The immersed areas at the stations of a ship.
use Rattle.std.specs.Prelude.{◌≡◌, ℕ, ◌^◌, ◌≤◌, ℤ, pos, List, length, slice_get, Option, None, Some}
use Rattle.std.specs.Prelude.{option_map, is_some, if◌then◌else◌, unsigned_abs}
use Rattle.std.specs.List.{list_all, range_with_len}
use Rattle.units_core.specs.Interpolation.{interval}
use Rattle.units_core.specs.Ratio.{Ratio, floor_of}
use Rattle.ship_tables.specs.Record.{CurveTable}
use Rattle.ship_tables.specs.Curves.{curve_at}
use Rattle.ship_profile.specs.Record.{ProfileRecord}
use Rattle.hydrostat.specs.Floating.{Load, Hydrostatics, draught_at}

-- the area of the k-th curve at a draught, each rounded down; none where the draught, rounded down,
-- lies outside of the table
abbrev pub area_in : CurveTable → ℕ → ℤ → Option ℤ
area_in t k draught =
    option_map (λ i. floor_of (curve_at t draught k i)) (interval t.arguments draught)

-- at the k-th station, by the draughts along the ship; 0 where there is no such station
abbrev pub area_there : CurveTable → (ℤ → Ratio) → ℕ → Option ℤ → Option ℤ
area_there t draught k None = Some (pos 0)
area_there t draught k (Some x) = area_in t k (floor_of (draught x))

abbrev pub area_at : CurveTable → (ℤ → Ratio) → List ℤ → ℕ → Option ℤ
area_at t draught stations k = area_there t draught k (slice_get stations k)

-- it is there, and is this
pub record IsAreaAt (area : ℤ) (t : CurveTable) (draught : ℤ → Ratio) (stations : List ℤ)
    (k : ℕ) : Type 0 where
  pub is : area_at t draught stations k ≡ Some area
  pub within : unsigned_abs area ≤ 10 ^ 8

abbrev pub or_none : Option ℤ → ℤ
or_none None = pos 0
or_none (Some a) = a

-- the areas by their stations' numbers; none where the draught at some station lies outside of the
-- table
abbrev pub areas_of : CurveTable → (ℤ → Ratio) → List ℤ → Option (ℕ → ℤ)
areas_of t draught stations =
    if list_all (λ k. is_some (area_at t draught stations k)) (range_with_len 0 (length stations))
    then Some (λ k. or_none (area_at t draught stations k)) else None

-- those of a ship of this profile, by her hydrostatics, what is aboard and her length
abbrev pub areas_along : ProfileRecord → Hydrostatics → Load → ℤ → Option (ℕ → ℤ)
areas_along p w l lbp = areas_of p.tables.bonjean (draught_at w l lbp) p.ship.stations
