-- Bookkeeping: records of `cells.csv` that are rows whatever came before them, and the rows that
-- cells and places in two columns are.
use Rattle.std.specs.Prelude.{◌≡◌, ℕ, true, List, [], ◌∷◌, Ok}
use Rattle.std.specs.Bool.{⊤}
use Rattle.csv_text.specs.Reading.{Fields}
use Rattle.units_core.specs.declared.bodies.Place.{Place}
use Rattle.units_core.specs.declared.cells.Cell.{Cell}
use Rattle.ship_tables.specs.declared.extents.Extent.{Extent}
use Rattle.ship_tables.specs.declared.layouts.Field.TheVariants as field
use Rattle.ship_tables.specs.Extents.{holds}
use Rattle.ship_tables.specs.Record.{cells_form}
use Rattle.ship_tables.specs.Tables.{Row, row_in}

-- the row of a cell and of the place of its container
abbrev pub plain_row : Cell → Place → Row
plain_row c p =
    field.Cell c ∷ field.Number p.x ∷ field.Number p.y ∷ field.Number p.z ∷ field.Number p.half
    ∷ []

abbrev pub plain_rows : List Cell → List Place → List Row
plain_rows (c ∷ cs) (p ∷ ps) = plain_row c p ∷ plain_rows cs ps
plain_rows _ _ = []

-- the record is the row of this cell and place, which is within the extent
pub record IsPlain (extent : Extent) (fields : Fields) (c : Cell) (p : Place) : Type 0 where
  pub row : (line : ℕ) → row_in (cells_form extent) line fields ≡ Ok (plain_row c p)
  pub within : holds extent p ≡ true

-- each record is the row of its cell and place
abbrev pub ArePlain : Extent → List Fields → List Cell → List Place → Type 0
ArePlain extent [] [] [] = ⊤
ArePlain extent (f ∷ fs) (c ∷ cs) (p ∷ ps) = IsPlain extent f c p × ArePlain extent fs cs ps
ArePlain _ _ _ _ = ⊥
