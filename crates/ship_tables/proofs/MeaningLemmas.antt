-- What the tables of a ship keep, by what the rows of their files keep.
use Rattle.std.proofs.Common.{◌≡◌, ◌∙◌, ℕ, zero, suc, ◌+◌, ◌<◌, ◌≤◌, nat_lt, true, ℤ, pos, neg_ℤ, ◌≤ℤ◌, List, [], ◌∷◌, length, map, zip, slice_get, replicate, All, Option, None, Some, Ok, Err, IfSome, refl, ap, sym, arith, inl, inr, unsigned_abs}
use Rattle.std.proofs.lemmas.Bool.{cases_Bool}
use Rattle.std.proofs.lemmas.Bool.Decides.{nat_tests}
use Rattle.std.proofs.lemmas.Int.{ints}
use Rattle.std.proofs.lemmas.List.{length-map}
use Rattle.std.proofs.lemmas.Map.Made.{keys_of-zip}
use Rattle.std.specs.List.{AllByRecursion, IsDistinct}
use Rattle.std.specs.Map.{keys_of}
use Rattle.std.specs.Str.{bytes_eq}
use Rattle.units_core.specs.declared.bodies.Place.{Place}
use Rattle.units_core.specs.declared.cells.Cell.{Cell}
use Rattle.units_core.specs.Cells.{cell_eq}
use Rattle.units_core.specs.Interpolation.{at, IsWithin}
use Rattle.ship_tables.specs.declared.extents.Extent.{Extent}
use Rattle.ship_tables.specs.declared.faults.TableFault.{TableFault}
use Rattle.ship_tables.specs.declared.layouts.Column.{Column}
use Rattle.ship_tables.specs.declared.layouts.Column.TheVariants as column
use Rattle.ship_tables.specs.declared.layouts.Field.{Field}
use Rattle.ship_tables.specs.declared.layouts.Field.TheVariants as field
use Rattle.ship_tables.specs.declared.layouts.Stands.{Stands}
use Rattle.ship_tables.specs.Extents.{encloses, holds}
use Rattle.ship_tables.specs.Tables.{Form, Read, Row, number_at, cells_in, table_name, tables_read, file_in}
use Rattle.ship_tables.specs.Record.{length_column, size_column, cells_form, hydro_form, levers_form, bonjean_form, tanks_form, least_gm_form, place_at, places_in, numbers_of, hydro_table, hydro_in, columns_from, curve_table, curves_in, tank_table, tank_at, tanks_in, least_gm_in, HydroTable, CurveTable, Tank, TablesRecord, Texts, IsAtLeast, IsHydroTable, IsCurve, AreCurves, IsLeverTable, IsBonjeanTable, IsLeastGmTable, IsTankTable, IsTank, IsPlace, StandsWithin, IsSound, tables_of}
use Rattle.units_core.proofs.OutcomeLemmas.{went_on, same_ok}
use Rattle.ship_tables.proofs.SoundLemmas.{InColumn, IsRow, IsRows, IsFile, StandsIn, file_in-sound, several-sound}

-- a number of a column's limits
field-within : (c : Column) (f : Field) (low high : ℤ) → InColumn c f → c ≡ column.Number low high → (low ≤ℤ number_at (f ∷ []) 0) × (number_at (f ∷ []) 0 ≤ℤ high)
field-within column.Cell f low high h e = cc
field-within column.Name f low high h e = cc
field-within (column.Number l u) (field.Cell c) low high h e = absurd h
field-within (column.Number l u) (field.Name n) low high h e = absurd h
field-within (column.Number l u) (field.Number z) low high h e =
    let least : l ≡ low = cc in
    let most : u ≡ high = cc in
    (rw (← least) h.0, rw (← most) h.1)

number-within : (cs : List Column) (fs : Row) (k : ℕ) (low high : ℤ) → IsRow cs fs → slice_get cs k ≡ Some (column.Number low high)
    → (low ≤ℤ number_at fs k) × (number_at fs k ≤ℤ high)
number-within [] fs k low high h e = cc
number-within (c ∷ cs) [] k low high h e = absurd h
number-within (c ∷ cs) (f ∷ fs) zero low high h e = let same : c ≡ column.Number low high = cc in field-within c f low high h.0 same
number-within (c ∷ cs) (f ∷ fs) (suc k) low high h e = number-within cs fs k low high h.1 e

numbers-within : (cs : List Column) (rows : List Row) (k : ℕ) (low high : ℤ) → AllByRecursion (IsRow cs) rows → slice_get cs k ≡ Some (column.Number low high)
    → (i : ℕ) → i < length rows → (low ≤ℤ at (numbers_of k rows) i) × (at (numbers_of k rows) i ≤ℤ high)
numbers-within cs [] k low high h e i inside = absurd (omega arith)
numbers-within cs (row ∷ rows) k low high h e zero inside = number-within cs row k low high h.0 e
numbers-within cs (row ∷ rows) k low high h e (suc i) inside = numbers-within cs rows k low high h.1 e i (omega arith)

-- a number that lies so far either way at most is of that size at most
size : (z : ℤ) (m : ℕ) → neg_ℤ (pos m) ≤ℤ z → z ≤ℤ pos m → unsigned_abs z ≤ m
size z m low high = omega (arith, ints)

size_above : (z least : ℤ) (m : ℕ) → neg_ℤ (pos m) ≤ℤ least → least ≤ℤ z → z ≤ℤ pos m → unsigned_abs z ≤ m
size_above z least m low lower high = omega (arith, ints)

at-past : (zs : List ℤ) (k : ℕ) → length zs ≤ k → at zs k ≡ pos 0
at-past [] k h = refl
at-past (z ∷ zs) zero h = absurd (omega arith)
at-past (z ∷ zs) (suc k) h = at-past zs k (omega arith)

-- a column is within its limits
column-within : (zs : List ℤ) (m : ℕ) (least : ℤ) → neg_ℤ (pos m) ≤ℤ least → ((i : ℕ) → i < length zs → (least ≤ℤ at zs i) × (at zs i ≤ℤ pos m)) → IsWithin m zs
column-within zs m least low h k =
    elim (cases_Bool (nat_lt k (length zs))) [
      | inl before ↦ let limits = h k (grind (arith, nat_tests)) in size_above (at zs k) least m low limits.0 limits.1
      | inr past ↦ rw (at-past zs k (grind (arith, nat_tests))) (omega arith)
    ]

pub numbers-length : (k : ℕ) (rows : List Row) → length (numbers_of k rows) ≡ length rows
numbers-length k rows = length-map rows (λ row. number_at row k)

module _ (cs : List Column) (rows : List Row) (each : AllByRecursion (IsRow cs) rows) (k : ℕ) (least : ℤ) (m : ℕ) (c : slice_get cs k ≡ Some (column.Number least (pos m))) where
  limits-of : (i : ℕ) → i < length (numbers_of k rows) → (least ≤ℤ at (numbers_of k rows) i) × (at (numbers_of k rows) i ≤ℤ pos m)
  limits-of i inside = numbers-within cs rows k least (pos m) each c i (let len = numbers-length k rows in omega (arith, len))

  within-of : neg_ℤ (pos m) ≤ℤ least → IsWithin m (numbers_of k rows)
  within-of low = column-within (numbers_of k rows) m least low limits-of

  least-of : IsAtLeast least (numbers_of k rows)
  least-of i inside = (limits-of i inside).0

-- the rows of `hydro.csv` are a hydrostatic table
pub hydro-sound : (r : Read) → IsFile hydro_form r → IsHydroTable (hydro_table r.rows)
hydro-sound r t =
    let rows = r.rows in
    let each = t.kept.rows.each in
    let cs = hydro_form.columns in
    let len = numbers-length 0 rows in
    let least = t.least in
    let most = t.kept.rows.most in
    record {
      rows = omega (arith, len, least);
      most = omega (arith, len, most);
      draught_rows = numbers-length 1 rows ∙ sym len;
      kmt_rows = numbers-length 2 rows ∙ sym len;
      lcb_rows = numbers-length 3 rows ∙ sym len;
      lcf_rows = numbers-length 4 rows ∙ sym len;
      mct_rows = numbers-length 5 rows ∙ sym len;
      rises = record { rises = λ i inside. (t.kept.rows.rule i inside).0; gaps = λ i inside. (t.kept.rows.rule i inside).1 };
      kg_positive = least-of cs rows each 0 (pos 1) 1000000000 refl;
      kg_within = within-of cs rows each 0 (pos 1) 1000000000 refl (omega (arith, ints));
      draught_least = least-of cs rows each 1 (pos 0) 100000 refl;
      draught_within = within-of cs rows each 1 (pos 0) 100000 refl (omega (arith, ints));
      kmt_least = least-of cs rows each 2 (pos 0) 1000000 refl;
      kmt_within = within-of cs rows each 2 (pos 0) 1000000 refl (omega (arith, ints));
      lcb_within = within-of cs rows each 3 (neg_ℤ (pos 1000000)) 1000000 refl (omega (arith, ints));
      lcf_within = within-of cs rows each 4 (neg_ℤ (pos 1000000)) 1000000 refl (omega (arith, ints));
      mct_positive = least-of cs rows each 5 (pos 1) 1000000000 refl;
      mct_within = within-of cs rows each 5 (pos 1) 1000000000 refl (omega (arith, ints));
    }

-- a file of an argument and n values from 0 to m
pub slice_get-replicate : (n j : ℕ) (c : Column) → j < n → slice_get (replicate n c) j ≡ Some c
slice_get-replicate zero j c h = absurd (omega arith)
slice_get-replicate (suc n) zero c h = refl
slice_get-replicate (suc n) (suc j) c h = slice_get-replicate n j c (omega arith)

each_at : {X : Type 0} (P : X → Type 0) (xs : List X) → AllByRecursion P xs → All P xs
each_at P [] h k d inside = absurd (omega arith)
each_at P (x ∷ xs) h zero d inside = h.0
each_at P (x ∷ xs) h (suc k) d inside = each_at P xs h.1 k d (omega arith)

module _ (first : Column) (n m : ℕ) (rows : List Row) (each : AllByRecursion (IsRow (first ∷ replicate n (column.Number (pos 0) (pos m)))) rows) where
  columns-sound : (k count : ℕ) → 1 ≤ k → k + count ≤ n + 1 → AllByRecursion (IsCurve (length (numbers_of 0 rows)) m) (columns_from k count rows)
  columns-sound k zero low high = tt
  columns-sound zero (suc count) low high = absurd (omega arith)
  columns-sound (suc k) (suc count) low high =
      let c = slice_get-replicate n k (column.Number (pos 0) (pos m)) (omega arith) in
      let cs = first ∷ replicate n (column.Number (pos 0) (pos m)) in (
        record {
          rows = numbers-length (suc k) rows ∙ sym (numbers-length 0 rows);
          least = least-of cs rows each (suc k) (pos 0) m c;
          within = within-of cs rows each (suc k) (pos 0) m c (omega (arith, ints));
        },
        columns-sound (suc (suc k)) count (omega arith) (omega arith),
      )

  curves-sound : (most : ℕ) → 2 ≤ length rows → length rows ≤ most → AreCurves most m (curve_table n rows)
  curves-sound most least few =
      let len = numbers-length 0 rows in
      record {
        rows = omega (arith, len, least);
        most = omega (arith, len, few);
        columns = each_at (IsCurve (length (numbers_of 0 rows)) m) (columns_from 1 n rows) (columns-sound 1 n (omega arith) (omega arith));
      }

columns-length : (k n : ℕ) (rows : List Row) → length (columns_from k n rows) ≡ n
columns-length k zero rows = refl
columns-length k (suc n) rows = ap suc (columns-length (suc k) n rows)

levers-sound : (r : Read) → IsFile levers_form r → IsLeverTable (curve_table 13 r.rows)
levers-sound r t = record {
  curves = curves-sound (column.Number (pos 1) (pos 1000000000)) 13 1000000 r.rows t.kept.rows.each 64 t.least t.kept.rows.most;
  angles = columns-length 1 13 r.rows;
  displacements = record {
    rises = record { rises = λ i inside. (t.kept.rows.rule i inside).0; gaps = λ i inside. (t.kept.rows.rule i inside).1 };
    positive = least-of levers_form.columns r.rows t.kept.rows.each 0 (pos 1) 1000000000 refl;
    within = within-of levers_form.columns r.rows t.kept.rows.each 0 (pos 1) 1000000000 refl (omega (arith, ints));
  };
}

least_gm-sound : (r : Read) → IsFile least_gm_form r → IsLeastGmTable (curve_table 1 r.rows)
least_gm-sound r t = record {
  curves = curves-sound (column.Number (pos 1) (pos 1000000000)) 1 1000000 r.rows t.kept.rows.each 200 t.least t.kept.rows.most;
  one = columns-length 1 1 r.rows;
  displacements = record {
    rises = record { rises = λ i inside. (t.kept.rows.rule i inside).0; gaps = λ i inside. (t.kept.rows.rule i inside).1 };
    positive = least-of least_gm_form.columns r.rows t.kept.rows.each 0 (pos 1) 1000000000 refl;
    within = within-of least_gm_form.columns r.rows t.kept.rows.each 0 (pos 1) 1000000000 refl (omega (arith, ints));
  };
}

bonjean-sound : (stations : ℕ) (r : Read) → IsFile (bonjean_form stations) r → IsBonjeanTable (curve_table stations r.rows)
bonjean-sound stations r t = record {
  curves = curves-sound (column.Number (pos 0) (pos 100000)) stations 100000000 r.rows t.kept.rows.each 64 t.least t.kept.rows.most;
  rises = λ i inside. (t.kept.rows.rule i inside).0;
  least = least-of (bonjean_form stations).columns r.rows t.kept.rows.each 0 (pos 0) 100000 refl;
  within = within-of (bonjean_form stations).columns r.rows t.kept.rows.each 0 (pos 0) 100000 refl (omega (arith, ints));
}

-- a tank's rows are a table
pub tank-sound : (extent : Extent) (rows : List Row) → IsRows (tanks_form extent) rows → 2 ≤ length rows → IsTankTable (tank_table rows)
tank-sound extent rows t least =
    let each = t.each in
    let cs = (tanks_form extent).columns in
    let len = numbers-length 1 rows in
    let most = t.most in
    record {
      rows = omega (arith, len, least);
      most = omega (arith, len, most);
      x_rows = numbers-length 2 rows ∙ sym len;
      y_rows = numbers-length 3 rows ∙ sym len;
      z_rows = numbers-length 4 rows ∙ sym len;
      half_rows = numbers-length 5 rows ∙ sym len;
      fsm_rows = numbers-length 6 rows ∙ sym len;
      rises = record { rises = λ i inside. (t.rule i inside).0; gaps = λ i inside. (t.rule i inside).1 };
      kg_least = least-of cs rows each 1 (pos 0) 1000000000 refl;
      kg_within = within-of cs rows each 1 (pos 0) 1000000000 refl (omega (arith, ints));
      x_within = within-of cs rows each 2 (neg_ℤ (pos 1000000)) 1000000 refl (omega (arith, ints));
      y_within = within-of cs rows each 3 (neg_ℤ (pos 1000000)) 1000000 refl (omega (arith, ints));
      z_within = within-of cs rows each 4 (neg_ℤ (pos 1000000)) 1000000 refl (omega (arith, ints));
      half_least = least-of cs rows each 5 (pos 0) 1000000 refl;
      half_within = within-of cs rows each 5 (pos 0) 1000000 refl (omega (arith, ints));
      fsm_least = least-of cs rows each 6 (pos 0) 1000000000000 refl;
      fsm_within = within-of cs rows each 6 (pos 0) 1000000000000 refl (omega (arith, ints));
    }

name-sound : (cs : List Column) (rows : List Row) → AllByRecursion (IsRow (column.Name ∷ cs)) rows → 1 ≤ length rows → (1 ≤ length (table_name rows)) × (length (table_name rows) ≤ 16)
name-sound cs [] h least = absurd (omega arith)
name-sound cs ([] ∷ rows) h least = absurd h.0
name-sound cs ((field.Number z ∷ fs) ∷ rows) h least = absurd h.0.0
name-sound cs ((field.Cell c ∷ fs) ∷ rows) h least = absurd h.0.0
name-sound cs ((field.Name n ∷ fs) ∷ rows) h least = h.0.0

stands-at : (s : Stands) (rows : List Row) → AllByRecursion (StandsIn (Some s)) rows → (k : ℕ) → k < length rows
    → encloses s.extent (at (numbers_of s.x rows) k) (at (numbers_of s.half rows) k) ≡ true
stands-at s [] h k inside = absurd (omega arith)
stands-at s (row ∷ rows) h zero inside = h.0
stands-at s (row ∷ rows) h (suc k) inside = stands-at s rows h.1 k (omega arith)

-- the tanks of a file
module _ (extent : Extent) where
  table-sound : (rows : List Row) → IsRows (tanks_form extent) rows → 2 ≤ length rows → IsTank (tank_at rows) × StandsWithin extent (tank_at rows)
  table-sound rows t least =
      let name = name-sound (column.Number (pos 0) (pos 1000000000) ∷ length_column ∷ length_column ∷ length_column ∷ size_column ∷ column.Number (pos 0) (pos 1000000000000) ∷ []) rows t.each (omega arith) in
      let len = numbers-length 1 rows in (
        record { named = name.0; short_name = name.1; table = tank-sound extent rows t least },
        λ k inside. stands-at (record { extent = extent; x = 2; half = 5 }) rows t.stands k (omega (arith, len)),
      )

  tables-sound : (tables : List (List Row)) → AllByRecursion (IsRows (tanks_form extent)) tables → AllByRecursion (λ t. 2 ≤ length t) tables
      → AllByRecursion IsTank (map tank_at tables) × AllByRecursion (StandsWithin extent) (map tank_at tables)
  tables-sound [] h k = (tt, tt)
  tables-sound (rows ∷ tables) h k =
      let one = table-sound rows h.0 k.0 in
      let more = tables-sound tables h.1 k.1 in
      ((one.0, more.0), (one.1, more.1))

  tank_tables-sound : (tables : List (List Row)) → AllByRecursion (IsRows (tanks_form extent)) tables → AllByRecursion (λ t. 2 ≤ length t) tables
      → AllByRecursion (λ t. IsTankTable (tank_table t)) tables
  tank_tables-sound [] h k = tt
  tank_tables-sound (rows ∷ tables) h k = (tank-sound extent rows h.0 k.0, tank_tables-sound tables h.1 k.1)

pub all_tanks : (extent : Extent) (r : Read) → IsFile (tanks_form extent) r → All (λ t. IsTankTable (tank_table t)) (tables_read r)
all_tanks extent r f = each_at (λ t. IsTankTable (tank_table t)) (tables_read r) (tank_tables-sound extent (tables_read r) (several-sound (tanks_form extent) r f) f.least)

names-at : (tables : List (List Row)) → map (λ (tank : Tank). tank.name) (map tank_at tables) ≡ map table_name tables
names-at [] = refl
names-at (rows ∷ tables) = ap (λ ns. table_name rows ∷ ns) (names-at tables)

-- a row of `cells.csv` says where a container stands
place-sound : (extent : Extent) (fields : Row) → IsRow (cells_form extent).columns fields → IsPlace (place_at fields)
place-sound extent fields h =
    let cs = (cells_form extent).columns in
    let x = number-within cs fields 1 (neg_ℤ (pos 1000000)) (pos 1000000) h refl in
    let y = number-within cs fields 2 (neg_ℤ (pos 1000000)) (pos 1000000) h refl in
    let z = number-within cs fields 3 (neg_ℤ (pos 1000000)) (pos 1000000) h refl in
    let half = number-within cs fields 4 (pos 0) (pos 1000000) h refl in
    record {
      x_within = size (number_at fields 1) 1000000 x.0 x.1;
      y_within = size (number_at fields 2) 1000000 y.0 y.1;
      z_within = size (number_at fields 3) 1000000 z.0 z.1;
      half_least = half.0;
      half_within = size_above (number_at fields 4) (pos 0) 1000000 (omega (arith, ints)) half.0 half.1;
    }

rows_placed : (extent : Extent) (rows : List Row) → AllByRecursion (IsRow (cells_form extent).columns) rows → AllByRecursion (λ r. IsPlace (place_at r)) rows
rows_placed extent [] h = tt
rows_placed extent (row ∷ rows) h = (place-sound extent row h.0, rows_placed extent rows h.1)

pub places-sound : (extent : Extent) (r : Read) → IsFile (cells_form extent) r → All (λ row. IsPlace (place_at row)) r.rows
places-sound extent r t = each_at (λ row. IsPlace (place_at row)) r.rows (rows_placed extent r.rows t.kept.rows.each)

-- each row of `cells.csv` has a cell
pub cells-length : (cs : List Column) (rows : List Row) → AllByRecursion (IsRow (column.Cell ∷ cs)) rows → length (cells_in rows) ≡ length rows
cells-length cs [] h = refl
cells-length cs ([] ∷ rows) h = absurd h.0
cells-length cs ((field.Number z ∷ fs) ∷ rows) h = absurd h.0.0
cells-length cs ((field.Name n ∷ fs) ∷ rows) h = absurd h.0.0
cells-length cs ((field.Cell c ∷ fs) ∷ rows) h = ap suc (cells-length cs rows h.1)

zip_placed : (P : Place → Type 0) (cells : List Cell) (rows : List Row) → AllByRecursion (λ r. P (place_at r)) rows → AllByRecursion (λ c. P c.1) (zip cells (map place_at rows))
zip_placed P [] rows h = tt
zip_placed P (c ∷ cells) [] h = tt
zip_placed P (c ∷ cells) (row ∷ rows) h = (h.0, zip_placed P cells rows h.1)

zip_length : (cells : List Cell) (places : List Place) → length places ≡ length cells → length (zip cells places) ≡ length cells
zip_length [] places e = refl
zip_length (c ∷ cells) [] e = absurd (omega arith)
zip_length (c ∷ cells) (p ∷ places) e = ap suc (zip_length cells places (omega arith))

-- what the cells keep
record AreCells (extent : Extent) (cells : List (Cell × Place)) : Type 0 where
  some : 1 ≤ length cells
  few : length cells ≤ 30000
  placed : All (λ c. IsPlace c.1) cells
  within : All (λ c. holds extent c.1 ≡ true) cells
  distinct : IsDistinct cell_eq (keys_of cells)

cells-sound : (extent : Extent) (r : Read) → IsFile (cells_form extent) r → AreCells extent (zip (cells_in r.rows) (map place_at r.rows))
cells-sound extent r t =
    let rows = r.rows in
    let count = cells-length (length_column ∷ length_column ∷ length_column ∷ size_column ∷ []) rows t.kept.rows.each in
    let places : length (map place_at rows) ≡ length (cells_in rows) = length-map rows place_at ∙ sym count in
    let len = zip_length (cells_in rows) (map place_at rows) places in
    let least = t.least in
    let most = t.kept.rows.most in
    record {
      some = omega (arith, len, count, least);
      few = omega (arith, len, count, most);
      placed = each_at (λ c. IsPlace c.1) _ (zip_placed IsPlace (cells_in rows) rows (rows_placed extent rows t.kept.rows.each));
      within = each_at (λ c. holds extent c.1 ≡ true) _ (zip_placed (λ p. holds extent p ≡ true) (cells_in rows) rows t.kept.rows.stands);
      distinct = rw (keys_of-zip (cells_in rows) (map place_at rows) places) t.kept.rows.rule;
    }

places_in-sound : (extent : Extent) (text : List ℕ) (cells : List (Cell × Place)) → places_in extent text ≡ Ok cells → AreCells extent cells
places_in-sound extent text cells e =
    let read = went_on (file_in (cells_form extent) text) (λ r. Ok (zip (cells_in r.rows) (map place_at r.rows))) cells e in
    rw (← same_ok (zip (cells_in read.0.rows) (map place_at read.0.rows)) cells read.2) (cells-sound extent read.0 (file_in-sound (cells_form extent) (omega arith) text read.0 read.1))

hydro_in-sound : (text : List ℕ) (h : HydroTable) → hydro_in text ≡ Ok h → IsHydroTable h
hydro_in-sound text h e =
    let read = went_on (file_in hydro_form text) (λ r. Ok (hydro_table r.rows)) h e in
    rw (← same_ok (hydro_table read.0.rows) h read.2) (hydro-sound read.0 (file_in-sound hydro_form (omega arith) text read.0 read.1))

curves_in-read : (form : Form) (n : ℕ) (text : List ℕ) (c : CurveTable) → curves_in form n text ≡ Ok c → 1 ≤ form.most → (r : Read) × IsFile form r × (curve_table n r.rows ≡ c)
curves_in-read form n text c e some =
    let read = went_on (file_in form text) (λ r. Ok (curve_table n r.rows)) c e in
    (read.0, file_in-sound form some text read.0 read.1, same_ok (curve_table n read.0.rows) c read.2)

levers_in-sound : (text : List ℕ) (c : CurveTable) → curves_in levers_form 13 text ≡ Ok c → IsLeverTable c
levers_in-sound text c e = let read = curves_in-read levers_form 13 text c e (omega arith) in rw (← read.2) (levers-sound read.0 read.1)

bonjean_in-sound : (stations : ℕ) (text : List ℕ) (c : CurveTable) → curves_in (bonjean_form stations) stations text ≡ Ok c
    → IsBonjeanTable c × (length c.columns ≡ stations)
bonjean_in-sound stations text c e =
    let read = curves_in-read (bonjean_form stations) stations text c e (omega arith) in
    rw (← read.2) (bonjean-sound stations read.0 read.1, columns-length 1 stations read.0.rows)

least_gm_in-sound : (text : Option (List ℕ)) (c : Option CurveTable) → least_gm_in text ≡ Ok c → IfSome c IsLeastGmTable
least_gm_in-sound None c e = rw (← same_ok None c e) tt
least_gm_in-sound (Some text) c e =
    let some = went_on (curves_in least_gm_form 1 text) (λ t. Ok (Some t)) c e in
    let read = curves_in-read least_gm_form 1 text some.0 some.1 (omega arith) in
    let sound : IsLeastGmTable some.0 = rw (← read.2) (least_gm-sound read.0 read.1) in
    rw (← same_ok (Some some.0) c some.2) sound

record AreTanks (extent : Extent) (tanks : List Tank) : Type 0 where
  few : length tanks ≤ 200
  each : All IsTank tanks
  names : IsDistinct bytes_eq (map (λ tank. tank.name) tanks)
  within : All (StandsWithin extent) tanks

tanks-sound : (extent : Extent) (r : Read) → IsFile (tanks_form extent) r → AreTanks extent (map tank_at (tables_read r))
tanks-sound extent r f =
    let tables = tables_read r in
    let all = tables-sound extent tables (several-sound (tanks_form extent) r f) f.least in
    let kept = f.kept.tables in
    let len = length-map tables tank_at in
    let count = kept.0 in
    record {
      few = omega (arith, len, count);
      each = each_at IsTank (map tank_at tables) all.0;
      names = rw (names-at tables) kept.1;
      within = each_at (StandsWithin extent) (map tank_at tables) all.1;
    }

tanks_in-sound : (extent : Extent) (text : List ℕ) (tanks : List Tank) → tanks_in extent text ≡ Ok tanks → AreTanks extent tanks
tanks_in-sound extent text tanks e =
    let read = went_on (file_in (tanks_form extent) text) (λ r. Ok (map tank_at (tables_read r))) tanks e in
    rw (← same_ok (map tank_at (tables_read read.0)) tanks read.2) (tanks-sound extent read.0 (file_in-sound (tanks_form extent) (omega arith) text read.0 read.1))

-- all tables that are read keep what they should
pub set-sound : (extent : Extent) (stations : ℕ) (texts : Texts) (t : TablesRecord) → places_in extent texts.cells ≡ Ok t.cells → hydro_in texts.hydro ≡ Ok t.hydro
    → curves_in levers_form 13 texts.levers ≡ Ok t.levers → curves_in (bonjean_form stations) stations texts.bonjean ≡ Ok t.bonjean
    → tanks_in extent texts.tanks ≡ Ok t.tanks → least_gm_in texts.least_gm ≡ Ok t.least_gm → IsSound extent stations t
set-sound extent stations texts t cells_are hydro_is levers_are bonjean_is tanks_are least_gm_is =
    let cells = places_in-sound extent texts.cells t.cells cells_are in
    let bonjean = bonjean_in-sound stations texts.bonjean t.bonjean bonjean_is in
    let tanks = tanks_in-sound extent texts.tanks t.tanks tanks_are in
    record {
      tables = record {
        some_cells = cells.some;
        few_cells = cells.few;
        cells = cells.placed;
        distinct = cells.distinct;
        hydro = hydro_in-sound texts.hydro t.hydro hydro_is;
        levers = levers_in-sound texts.levers t.levers levers_are;
        bonjean = bonjean.0;
        few_tanks = tanks.few;
        tanks = tanks.each;
        names = tanks.names;
        least_gm = least_gm_in-sound texts.least_gm t.least_gm least_gm_is;
      };
      curves = bonjean.1;
      cells_within = cells.within;
      tanks_within = tanks.within;
    }

-- the last file's fault
pub set-stop : (extent : Extent) (stations : ℕ) (texts : Texts) (cells : List (Cell × Place)) (hydro : HydroTable) (levers bonjean : CurveTable) (tanks : List Tank) (e : TableFault)
    → places_in extent texts.cells ≡ Ok cells → hydro_in texts.hydro ≡ Ok hydro → curves_in levers_form 13 texts.levers ≡ Ok levers
    → curves_in (bonjean_form stations) stations texts.bonjean ≡ Ok bonjean → tanks_in extent texts.tanks ≡ Ok tanks → least_gm_in texts.least_gm ≡ Err e
    → tables_of extent stations texts ≡ Err e
set-stop extent stations texts cells hydro levers bonjean tanks e cells_are hydro_is levers_are bonjean_is tanks_are fault =
    rw (cells_are, hydro_is, levers_are, bonjean_is, tanks_are, fault) refl
