-- Bookkeeping: a row of the Bonjean table, its ends, and the lines of all stations there.
use Rattle.std.specs.Prelude.{◌≡◌, ℕ, ◌+◌, ◌<◌, ℤ, List, length}
use Rattle.units_core.specs.Interpolation.{at}
use Rattle.ship_tables.specs.Record.{CurveTable}
use Rattle.ship_profile.specs.Sections.{area_row}
use Rattle.ship_profile.specs.declared.sections.AreaLine.{AreaLine}

pub record IsRowOf (t : CurveTable) (number : ℕ) (lower upper : ℤ)
    (lines : List AreaLine) : Type 0 where
  pub inside : number + 1 < length t.arguments
  pub is_lower : lower ≡ at t.arguments number
  pub is_upper : upper ≡ at t.arguments (number + 1)
  pub are_lines : lines ≡ area_row t number
