-- What a walk along the stations takes of a ship's profile, worked out once: the immersed areas
-- between the rows of the Bonjean table as straight lines, and by what an area counts in the
-- volumes and moments of the intervals on both sides of its station.
use Rattle.std.specs.Prelude.{◌≡◌, ℕ, ◌+◌, ◌-◌, ◌^◌, ℤ, pos, ◌+ℤ◌, ◌-ℤ◌, ◌*ℤ◌, List, length, map}
use Rattle.std.specs.Int.{int_div_euclid}
use Rattle.std.specs.List.{range_with_len}
use Rattle.units_core.specs.Interpolation.{at}
use Rattle.ship_tables.specs.Curves.{curve}
use Rattle.ship_tables.specs.Record.{CurveTable}
use Rattle.ship_profile.specs.declared.sections.AreaLine.{AreaLine}
use Rattle.ship_profile.specs.declared.sections.StationWeight.{StationWeight}

-- the line through two areas, the second `by` mm above the first; how much it rises for each mm is
-- rounded up
abbrev pub line_through : ℤ → ℤ → ℤ → AreaLine
line_through lower upper by = record {
  start = lower *ℤ pos (2 ^ 36);
  slope = int_div_euclid (((upper -ℤ lower) *ℤ pos (2 ^ 36)) +ℤ (by -ℤ pos 1)) by;
}

-- that of the k-th station between the rows i and i + 1
abbrev pub area_line : CurveTable → ℕ → ℕ → AreaLine
area_line t i k =
    line_through (at (curve t k) i) (at (curve t k) (i + 1))
    (at t.arguments (i + 1) -ℤ at t.arguments i)

abbrev pub area_row : CurveTable → ℕ → List AreaLine
area_row t i = map (area_line t i) (range_with_len 0 (length t.columns))

-- Of the k-th station: with s mm to the station before it and t mm to the next, s + t, and
-- s (2 x + w) + t (2 x + z), where x is its place, w that of the one before and z that of the next.
-- The first station stands for the one before it.
abbrev pub station_weight : (ℕ → ℤ) → ℕ → StationWeight
station_weight xs k = record {
  volume = xs (k + 1) -ℤ xs (k - 1);
  moment =
      ((xs k -ℤ xs (k - 1)) *ℤ ((pos 2 *ℤ xs k) +ℤ xs (k - 1)))
      +ℤ ((xs (k + 1) -ℤ xs k) *ℤ ((pos 2 *ℤ xs k) +ℤ xs (k + 1)));
}

pub record SectionRecord : Type 0 where
  pub rows : List (List AreaLine)
  pub weights : List StationWeight

-- they are those of a table and of stations: a list of lines for each row but the last, and a
-- weight for each station but the last
pub record AreSectionsOf (s : SectionRecord) (stations : List ℤ) (t : CurveTable) : Type 0 where
  pub are_rows : s.rows ≡ map (area_row t) (range_with_len 0 (length t.arguments - 1))
  pub are_weights :
      s.weights ≡ map (station_weight (at stations)) (range_with_len 0 (length stations - 1))
