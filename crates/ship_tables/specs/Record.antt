-- The tables of a ship's profile: the record that their files write, where every rule of them
-- holds, or else the first fault in the order of the files.
use Rattle.std.specs.Prelude.{◌≡◌, ℕ, suc, zero, ◌<◌, ◌≤◌, ◌^◌, ℤ, pos, neg_ℤ, ◌≤ℤ◌, unsigned_abs}
use Rattle.std.specs.Prelude.{true, List, [], ◌∷◌, map, zip, length, All, slice_get, replicate}
use Rattle.std.specs.Prelude.{position, Option, Some, None, option_map, IfSome, Result, Ok}
use Rattle.std.specs.Borrow.{Bor}
use Rattle.std.specs.List.{IsDistinct}
use Rattle.std.specs.Map.{keys_of, lookup}
use Rattle.std.specs.Str.{bytes_eq}
use Rattle.units_core.specs.declared.bodies.Place.{Place}
use Rattle.units_core.specs.declared.cells.Cell.{Cell}
use Rattle.units_core.specs.Bodies.{Mass}
use Rattle.units_core.specs.Cells.{cell_eq}
use Rattle.units_core.specs.Interpolation.{at, interval, reading, IsRising, Rises, IsWithin}
use Rattle.units_core.specs.Interpolation.{IsPositive}
use Rattle.units_core.specs.Ratio.{floor_of}
use Rattle.ship_tables.specs.declared.extents.Extent.{Extent}
use Rattle.ship_tables.specs.declared.faults.File.TheVariants as file
use Rattle.ship_tables.specs.declared.faults.TableFault.{TableFault}
use Rattle.ship_tables.specs.declared.layouts.Column.{Column}
use Rattle.ship_tables.specs.declared.layouts.Column.TheVariants as column
use Rattle.ship_tables.specs.declared.layouts.Rule.TheVariants as rule
use Rattle.ship_tables.specs.declared.texts.TableTexts.{TableTexts}
use Rattle.ship_tables.specs.Extents.{holds}
use Rattle.units_core.specs.Outcome.{◌>>=◌}
use Rattle.ship_tables.specs.Tables.{Form, Row, number_at, cells_in, table_name, tables_read}
use Rattle.ship_tables.specs.Tables.{file_in}

-- a length in mm of at most 10^6 either way, one that isn't below 0, a draught in mm, and a mass in
-- kg (or a moment in kg mm that changes the trim by 1 mm)
abbrev pub length_column : Column
length_column = column.Number (neg_ℤ (pos 1000000)) (pos 1000000)

abbrev pub size_column : Column
size_column = column.Number (pos 0) (pos 1000000)

abbrev pub draught_column : Column
draught_column = column.Number (pos 0) (pos 100000)

abbrev pub positive_column : Column
positive_column = column.Number (pos 1) (pos 1000000000)

-- an area in cm2
abbrev pub area_column : Column
area_column = column.Number (pos 0) (pos 100000000)

-- `cells.csv`: the cell, then x, y, z and half of the container that is in it
abbrev pub cells_form : Extent → Form
cells_form extent = record {
  file = file.Cells;
  columns = column.Cell ∷ length_column ∷ length_column ∷ length_column ∷ size_column ∷ [];
  least = 1;
  most = 30000;
  rule = rule.Distinct;
  stands = Some (record { extent = extent; x = 1; half = 4 });
}

-- `hydro.csv`: displacement in kg, mean draught, height of the transverse metacentre, longitudinal
-- centres of buoyancy and of flotation in mm, and the moment in kg mm that changes the trim by 1 mm
abbrev pub hydro_form : Form
hydro_form = record {
  file = file.Hydro;
  columns = positive_column ∷ draught_column ∷ size_column ∷ length_column ∷ length_column
      ∷ positive_column ∷ [];
  least = 2;
  most = 200;
  rule = rule.Rising (Some (pos 100000000));
  stands = None;
}

-- `kn.csv`: displacement in kg, and the righting levers KN in mm at 0, 5, .., 60 degrees of heel
abbrev pub levers_form : Form
levers_form = record {
  file = file.Levers;
  columns = positive_column ∷ size_column ∷ size_column ∷ size_column ∷ size_column ∷ size_column
      ∷ size_column ∷ size_column ∷ size_column
      ∷ size_column ∷ size_column ∷ size_column ∷ size_column ∷ size_column ∷ [];
  least = 2;
  most = 64;
  rule = rule.Rising (Some (pos 100000000));
  stands = None;
}

-- `bonjean.csv`: draught in mm, and the immersed area in cm2 at each station
abbrev pub bonjean_form : ℕ → Form
bonjean_form stations = record {
  file = file.Bonjean;
  columns = draught_column ∷ replicate stations area_column;
  least = 2;
  most = 64;
  rule = rule.Rising None;
  stands = None;
}

-- `tanks.csv`: the tank's name, the mass of its filling in kg, its place (x, y, z, half in mm), and
-- its free surface moment in kg mm
abbrev pub tanks_form : Extent → Form
tanks_form extent = record {
  file = file.Tanks;
  columns = column.Name ∷ column.Number (pos 0)
      (pos 1000000000) ∷ length_column ∷ length_column ∷ length_column ∷ size_column
      ∷ column.Number (pos 0) (pos 1000000000000) ∷ [];
  least = 2;
  most = 64;
  rule = rule.Together (pos 100000000) 200;
  stands = Some (record { extent = extent; x = 2; half = 5 });
}

-- `gm.csv`: displacement in kg, and the least metacentric height in mm that the ship may have at it
abbrev pub least_gm_form : Form
least_gm_form = record {
  file = file.LeastGm;
  columns = positive_column ∷ size_column ∷ [];
  least = 2;
  most = 200;
  rule = rule.Rising (Some (pos 100000000));
  stands = None;
}

-- the place of the container of a row of `cells.csv`
abbrev pub place_at : Row → Place
place_at fields =
    record {
      x = number_at fields 1;
      y = number_at fields 2;
      z = number_at fields 3;
      half = number_at fields 4;
    }

-- the cells that the text of `cells.csv` writes, each with the place of its container
abbrev pub places_in : Extent → List ℕ → Result (List (Cell × Place)) TableFault
places_in extent text =
    file_in (cells_form extent) text >>= (λ r. Ok (zip (cells_in r.rows) (map place_at r.rows)))

-- the numbers of a column, row by row
abbrev pub numbers_of : ℕ → List Row → List ℤ
numbers_of k rows = map (λ row. number_at row k) rows

-- the hydrostatic table, column by column
pub record HydroTable : Type 0 where
  pub kg : List ℤ
  pub draught : List ℤ
  pub kmt : List ℤ
  pub lcb : List ℤ
  pub lcf : List ℤ
  pub mct : List ℤ

abbrev pub hydro_table : List Row → HydroTable
hydro_table rows = record {
  kg = numbers_of 0 rows;
  draught = numbers_of 1 rows;
  kmt = numbers_of 2 rows;
  lcb = numbers_of 3 rows;
  lcf = numbers_of 4 rows;
  mct = numbers_of 5 rows;
}

-- the hydrostatic table that the text of `hydro.csv` writes
abbrev pub hydro_in : List ℕ → Result HydroTable TableFault
hydro_in text = file_in hydro_form text >>= (λ r. Ok (hydro_table r.rows))

-- a table of curves over one argument: the arguments, and each curve's values at them
pub record CurveTable : Type 0 where
  pub arguments : List ℤ
  pub columns : List (List ℤ)

-- n columns from the k-th on
abbrev pub columns_from : ℕ → ℕ → List Row → List (List ℤ)
columns_from k zero rows = []
columns_from k (suc n) rows = numbers_of k rows ∷ columns_from (suc k) n rows

-- the table of n curves that rows of an argument and n values are
abbrev pub curve_table : ℕ → List Row → CurveTable
curve_table n rows = record { arguments = numbers_of 0 rows; columns = columns_from 1 n rows }

-- the curves that the text of a file of one argument and n values writes
abbrev pub curves_in : Form → ℕ → List ℕ → Result CurveTable TableFault
curves_in form n text = file_in form text >>= (λ r. Ok (curve_table n r.rows))

-- the table of a tank: for each mass of its filling, in kg, the place and the free surface moment
-- of the filling
pub record TankTable : Type 0 where
  pub kg : List ℤ
  pub x : List ℤ
  pub y : List ℤ
  pub z : List ℤ
  pub half : List ℤ
  pub fsm : List ℤ

pub record Tank : Type 0 where
  pub name : List ℕ
  pub rows : TankTable

abbrev pub tank_table : List Row → TankTable
tank_table rows = record {
  kg = numbers_of 1 rows;
  x = numbers_of 2 rows;
  y = numbers_of 3 rows;
  z = numbers_of 4 rows;
  half = numbers_of 5 rows;
  fsm = numbers_of 6 rows;
}

abbrev pub tank_at : List Row → Tank
tank_at rows = record { name = table_name rows; rows = tank_table rows }

-- tanks by their names and their tables
abbrev pub tanks_by : List (List ℕ) → List TankTable → List Tank
tanks_by (name ∷ names) (table ∷ tables) =
    record { name = name; rows = table } ∷ tanks_by names tables
tanks_by _ _ = []

-- the tanks that the text of `tanks.csv` writes
abbrev pub tanks_in : Extent → List ℕ → Result (List Tank) TableFault
tanks_in extent text = file_in (tanks_form extent) text >>= (λ r. Ok (map tank_at (tables_read r)))

-- the texts of the files
pub record Texts : Type 0 where
  pub cells : List ℕ
  pub hydro : List ℕ
  pub levers : List ℕ
  pub bonjean : List ℕ
  pub tanks : List ℕ
  pub least_gm : Option (List ℕ)

-- the text of a file that may be missing
abbrev pub text_of : Option (Bor (List ℕ)) → Option (List ℕ)
text_of t = option_map (λ b. b.now) t

abbrev pub texts_of : TableTexts → Texts
texts_of t = record {
  cells = t.cells.now;
  hydro = t.hydro.now;
  levers = t.levers.now;
  bonjean = t.bonjean.now;
  tanks = t.tanks.now;
  least_gm = text_of t.least_gm;
}

-- what the tables of a ship are: the cells in the order of their file, the hydrostatic table, the
-- righting levers, the Bonjean curves, the tanks in the order of their file, and the least
-- metacentric heights of a ship that has such limits
pub record TablesRecord : Type 0 where
  pub cells : List (Cell × Place)
  pub hydro : HydroTable
  pub levers : CurveTable
  pub bonjean : CurveTable
  pub tanks : List Tank
  pub least_gm : Option CurveTable

-- the table of a file that may be missing
abbrev pub least_gm_in : Option (List ℕ) → Result (Option CurveTable) TableFault
least_gm_in None = Ok None
least_gm_in (Some text) = curves_in least_gm_form 1 text >>= (λ c. Ok (Some c))

-- the tables that the texts write for a ship of this extent and number of stations
abbrev pub tables_of : Extent → ℕ → Texts → Result TablesRecord TableFault
tables_of extent stations texts =
    places_in extent texts.cells >>= (λ cells.
    hydro_in texts.hydro >>= (λ hydro.
    curves_in levers_form 13 texts.levers >>= (λ levers.
    curves_in (bonjean_form stations) stations texts.bonjean >>= (λ bonjean.
    tanks_in extent texts.tanks >>= (λ tanks.
    least_gm_in texts.least_gm >>= (λ least_gm.
    Ok (record {
      cells = cells;
      hydro = hydro;
      levers = levers;
      bonjean = bonjean;
      tanks = tanks;
      least_gm = least_gm;
    })))))))

-- the place of a container in a cell
abbrev pub place_of : TablesRecord → Cell → Option Place
place_of t cell = lookup (cell_eq cell) t.cells

-- the number of a cell, from 0 in the order of the file
abbrev pub number_of : TablesRecord → Cell → Option ℕ
number_of t cell = position (cell_eq cell) (keys_of t.cells)

-- the number of the tank of a name, from 0 in the order of the file
abbrev pub tank_of : TablesRecord → List ℕ → Option ℕ
tank_of t name = position (λ tank. bytes_eq name tank.name) t.tanks

-- the body of a filling of mass kg in the i-th interval of its tank's table, each figure read there
-- and rounded down
abbrev pub filling : TankTable → ℕ → ℕ → Mass
filling t kg i = record {
  kg = kg;
  place = record {
    x = floor_of (reading t.kg t.x i (pos kg));
    y = floor_of (reading t.kg t.y i (pos kg));
    z = floor_of (reading t.kg t.z i (pos kg));
    half = floor_of (reading t.kg t.half i (pos kg));
  };
  fsm = floor_of (reading t.kg t.fsm i (pos kg));
}

-- the body of a filling of a tank's table, where there is one and it has the mass
abbrev pub filling_in : ℕ → Option TankTable → Option Mass
filling_in kg None = None
filling_in kg (Some table) = option_map (filling table kg) (interval table.kg (pos kg))

-- the body of a filling of a tank by its number
abbrev pub tank_body : TablesRecord → ℕ → ℕ → Option Mass
tank_body t number kg = filling_in kg (option_map (λ tank. tank.rows) (slice_get t.tanks number))

-- each number of the column is at least this
abbrev pub IsAtLeast : ℤ → List ℤ → Type 0
IsAtLeast low xs = (k : ℕ) → k < length xs → low ≤ℤ at xs k

-- the table can be read by its first column: 2 to 200 rows, displacements that rise by at most 10^8
-- kg, and each number within its limits
pub record IsHydroTable (h : HydroTable) : Type 0 where
  pub rows : 2 ≤ length h.kg
  pub most : length h.kg ≤ 200
  pub draught_rows : length h.draught ≡ length h.kg
  pub kmt_rows : length h.kmt ≡ length h.kg
  pub lcb_rows : length h.lcb ≡ length h.kg
  pub lcf_rows : length h.lcf ≡ length h.kg
  pub mct_rows : length h.mct ≡ length h.kg
  pub rises : Rises (10 ^ 8) h.kg
  pub kg_positive : IsPositive h.kg
  pub kg_within : IsWithin (10 ^ 9) h.kg
  pub draught_least : IsAtLeast (pos 0) h.draught
  pub draught_within : IsWithin (10 ^ 5) h.draught
  pub kmt_least : IsAtLeast (pos 0) h.kmt
  pub kmt_within : IsWithin (10 ^ 6) h.kmt
  pub lcb_within : IsWithin (10 ^ 6) h.lcb
  pub lcf_within : IsWithin (10 ^ 6) h.lcf
  pub mct_positive : IsPositive h.mct
  pub mct_within : IsWithin (10 ^ 9) h.mct

-- a curve has a value from 0 to m for each of its arguments, which are `count`
pub record IsCurve (count m : ℕ) (column : List ℤ) : Type 0 where
  pub rows : length column ≡ count
  pub least : IsAtLeast (pos 0) column
  pub within : IsWithin m column

-- curves of values from 0 to m can be read: they have 2 to `count` rows
pub record AreCurves (count m : ℕ) (c : CurveTable) : Type 0 where
  pub rows : 2 ≤ length c.arguments
  pub most : length c.arguments ≤ count
  pub columns : All (IsCurve (length c.arguments) m) c.columns

-- the arguments of a table are displacements, which rise by at most 10^8 kg
pub record AreDisplacements (kg : List ℤ) : Type 0 where
  pub rises : Rises (10 ^ 8) kg
  pub positive : IsPositive kg
  pub within : IsWithin (10 ^ 9) kg

-- 13 levers for each displacement
pub record IsLeverTable (c : CurveTable) : Type 0 where
  pub curves : AreCurves 64 (10 ^ 6) c
  pub angles : length c.columns ≡ 13
  pub displacements : AreDisplacements c.arguments

-- areas for each draught
pub record IsBonjeanTable (c : CurveTable) : Type 0 where
  pub curves : AreCurves 64 (10 ^ 8) c
  pub rises : IsRising c.arguments
  pub least : IsAtLeast (pos 0) c.arguments
  pub within : IsWithin (10 ^ 5) c.arguments

-- one limit for each displacement
pub record IsLeastGmTable (c : CurveTable) : Type 0 where
  pub curves : AreCurves 200 (10 ^ 6) c
  pub one : length c.columns ≡ 1
  pub displacements : AreDisplacements c.arguments

-- a tank's table can be read: 2 to 64 rows, masses that rise by at most 10^8 kg, and each number
-- within its limits
pub record IsTankTable (t : TankTable) : Type 0 where
  pub rows : 2 ≤ length t.kg
  pub most : length t.kg ≤ 64
  pub x_rows : length t.x ≡ length t.kg
  pub y_rows : length t.y ≡ length t.kg
  pub z_rows : length t.z ≡ length t.kg
  pub half_rows : length t.half ≡ length t.kg
  pub fsm_rows : length t.fsm ≡ length t.kg
  pub rises : Rises (10 ^ 8) t.kg
  pub kg_least : IsAtLeast (pos 0) t.kg
  pub kg_within : IsWithin (10 ^ 9) t.kg
  pub x_within : IsWithin (10 ^ 6) t.x
  pub y_within : IsWithin (10 ^ 6) t.y
  pub z_within : IsWithin (10 ^ 6) t.z
  pub half_least : IsAtLeast (pos 0) t.half
  pub half_within : IsWithin (10 ^ 6) t.half
  pub fsm_least : IsAtLeast (pos 0) t.fsm
  pub fsm_within : IsWithin (10 ^ 12) t.fsm

pub record IsTank (t : Tank) : Type 0 where
  pub named : 1 ≤ length t.name
  pub short_name : length t.name ≤ 16
  pub table : IsTankTable t.rows

-- a place within 10^6 mm of the origin either way, its half no less than 0
pub record IsPlace (p : Place) : Type 0 where
  pub x_within : unsigned_abs p.x ≤ 10 ^ 6
  pub y_within : unsigned_abs p.y ≤ 10 ^ 6
  pub z_within : unsigned_abs p.z ≤ 10 ^ 6
  pub half_least : pos 0 ≤ℤ p.half
  pub half_within : unsigned_abs p.half ≤ 10 ^ 6

-- what the tables of every ship keep: 1 to 30,000 different cells, at most 200 tanks of different
-- names, and tables that can be read
pub record AreTables (t : TablesRecord) : Type 0 where
  pub some_cells : 1 ≤ length t.cells
  pub few_cells : length t.cells ≤ 30000
  pub cells : All (λ c. IsPlace c.1) t.cells
  pub distinct : IsDistinct cell_eq (keys_of t.cells)
  pub hydro : IsHydroTable t.hydro
  pub levers : IsLeverTable t.levers
  pub bonjean : IsBonjeanTable t.bonjean
  pub few_tanks : length t.tanks ≤ 200
  pub tanks : All IsTank t.tanks
  pub names : IsDistinct bytes_eq (map (λ tank. tank.name) t.tanks)
  pub least_gm : IfSome t.least_gm IsLeastGmTable

-- in each row of a tank's table the filling is within the extent
abbrev pub StandsWithin : Extent → Tank → Type 0
StandsWithin extent tank = (k : ℕ) → k < length tank.rows.kg
    → holds extent
    (record {
      x = at tank.rows.x k;
      y = at tank.rows.y k;
      z = at tank.rows.z k;
      half = at tank.rows.half k;
    }) ≡ true

-- what is true of the tables of a ship of this extent and number of stations: besides AreTables,
-- there is a curve of areas for each station, and containers and tanks are within the extent
pub record IsSound (extent : Extent) (stations : ℕ) (t : TablesRecord) : Type 0 where
  pub tables : AreTables t
  pub curves : length t.bonjean.columns ≡ stations
  pub cells_within : All (λ c. holds extent c.1 ≡ true) t.cells
  pub tanks_within : All (StandsWithin extent) t.tanks
