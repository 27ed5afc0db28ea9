-- The tables of a ship are the ones that her files write: each number of them is the one in the
-- file, in its column and in the record of its row. This is defined by the texts only, without a
-- reader.
use Rattle.std.specs.Prelude.{◌≡◌, ℕ, ◌+◌, ℤ, List, drop, map, length, slice_get, replicate, Option}
use Rattle.std.specs.Prelude.{Some, None}
use Rattle.std.specs.List.{flat_map}
use Rattle.std.specs.Map.{keys_of}
use Rattle.std.specs.Option.{option_and_then}
use Rattle.csv_text.specs.Numbers.{number_in}
use Rattle.csv_text.specs.Reading.{Fields, records_of}
use Rattle.units_core.specs.declared.bodies.Place.{Place}
use Rattle.units_core.specs.declared.cells.Cell.{Cell}
use Rattle.units_core.specs.Cells.{cell_in}
use Rattle.ship_tables.specs.Record.{HydroTable, CurveTable, TankTable, Tank, Texts, TablesRecord}

-- the records of a text under its heading
abbrev pub records_under : List ℕ → List Fields
records_under text = drop 1 (records_of text)

-- what the k-th field of a record is read as, the first being number 0; None where there is none,
-- and where it can't be read
abbrev pub field_as : {A : Type 0} → (List ℕ → Option A) → ℕ → Fields → Option A
field_as read k fields = option_and_then read (slice_get fields k)

-- the k-th column of a text: these are what its fields are read as, record by record
abbrev pub IsColumn : {A : Type 0} → (List ℕ → Option A) → ℕ → List ℕ → List A → Type 0
IsColumn read k text xs = map (field_as read k) (records_under text) ≡ map Some xs

-- these are the numbers of the k-th column
abbrev pub IsNumbers : ℕ → List ℕ → List ℤ → Type 0
IsNumbers k text zs = IsColumn number_in k text zs

-- `cells.csv`: the cell, x, y, z and half
pub record AreCellsWritten (text : List ℕ) (cells : List (Cell × Place)) : Type 0 where
  pub cell : IsColumn cell_in 0 text (keys_of cells)
  pub x : IsNumbers 1 text (map (λ c. c.1.x) cells)
  pub y : IsNumbers 2 text (map (λ c. c.1.y) cells)
  pub z : IsNumbers 3 text (map (λ c. c.1.z) cells)
  pub half : IsNumbers 4 text (map (λ c. c.1.half) cells)

-- `hydro.csv`: displacement, draught, height of the metacentre, centres of buoyancy and of
-- flotation, moment to change the trim
pub record IsHydroWritten (text : List ℕ) (h : HydroTable) : Type 0 where
  pub kg : IsNumbers 0 text h.kg
  pub draught : IsNumbers 1 text h.draught
  pub kmt : IsNumbers 2 text h.kmt
  pub lcb : IsNumbers 3 text h.lcb
  pub lcf : IsNumbers 4 text h.lcf
  pub mct : IsNumbers 5 text h.mct

-- `kn.csv`, `bonjean.csv` and `gm.csv`: the argument, then a column for each curve
pub record AreCurvesWritten (text : List ℕ) (c : CurveTable) : Type 0 where
  pub arguments : IsNumbers 0 text c.arguments
  pub columns : (k : ℕ) (zs : List ℤ) → slice_get c.columns k ≡ Some zs → IsNumbers (k + 1) text zs

-- a column of the tanks' tables, one table after another
abbrev pub column_of : {A : Type 0} → (TankTable → List A) → List Tank → List A
column_of column tanks = flat_map (λ tank. column tank.rows) tanks

-- `tanks.csv`: in each record the name of the tank, mass, x, y, z, half and free surface moment,
-- the records of a tank next to one another
pub record AreTanksWritten (text : List ℕ) (tanks : List Tank) : Type 0 where
  pub name : IsColumn Some 0 text
      (flat_map (λ tank. replicate (length tank.rows.kg) tank.name) tanks)
  pub kg : IsNumbers 1 text (column_of (λ t. t.kg) tanks)
  pub x : IsNumbers 2 text (column_of (λ t. t.x) tanks)
  pub y : IsNumbers 3 text (column_of (λ t. t.y) tanks)
  pub z : IsNumbers 4 text (column_of (λ t. t.z) tanks)
  pub half : IsNumbers 5 text (column_of (λ t. t.half) tanks)
  pub fsm : IsNumbers 6 text (column_of (λ t. t.fsm) tanks)

-- a file that may be missing: there are curves where it is there, and they are written in it
abbrev pub IsLeastGmWritten : Option (List ℕ) → Option CurveTable → Type 0
IsLeastGmWritten None c = c ≡ None
IsLeastGmWritten (Some text) None = ⊥
IsLeastGmWritten (Some text) (Some c) = AreCurvesWritten text c

-- the tables are written in the texts of their files
pub record IsWritten (texts : Texts) (t : TablesRecord) : Type 0 where
  pub cells : AreCellsWritten texts.cells t.cells
  pub hydro : IsHydroWritten texts.hydro t.hydro
  pub levers : AreCurvesWritten texts.levers t.levers
  pub bonjean : AreCurvesWritten texts.bonjean t.bonjean
  pub tanks : AreTanksWritten texts.tanks t.tanks
  pub least_gm : IsLeastGmWritten texts.least_gm t.least_gm
