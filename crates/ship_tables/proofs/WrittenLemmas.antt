-- The rows that were read of a text are its records, and so each column of the tables is the one that stands there.
use Rattle.std.proofs.Common.{◌≡◌, ◌∙◌, ℕ, zero, suc, ◌+◌, ◌<◌, true, ℤ, pos, neg_ℤ, List, [], ◌∷◌, ◌++◌, length, map, zip, slice_get, replicate, append_assoc, Option, None, Some, Ok, refl, ap, sym, arith, inl, inr}
use Rattle.std.specs.Bool.{⊤}
use Rattle.std.proofs.lemmas.Bool.{cases_Bool}
use Rattle.std.proofs.lemmas.List.{map-append, length-map}
use Rattle.std.proofs.lemmas.Map.Made.{keys_of-zip}
use Rattle.std.proofs.lemmas.Slice.Eq.{bytes_eq-Decides}
use Rattle.std.specs.List.{flat_map, AllByRecursion}
use Rattle.csv_text.specs.Numbers.{number_in}
use Rattle.csv_text.specs.Reading.{Fields}
use Rattle.units_core.specs.declared.bodies.Place.{Place}
use Rattle.units_core.specs.declared.cells.Cell.{Cell}
use Rattle.units_core.specs.Cells.{cell_in}
use Rattle.ship_tables.specs.declared.extents.Extent.{Extent}
use Rattle.ship_tables.specs.declared.layouts.Column.{Column}
use Rattle.ship_tables.specs.declared.layouts.Column.TheVariants as column
use Rattle.ship_tables.specs.declared.layouts.Field.{Field}
use Rattle.ship_tables.specs.declared.layouts.Field.TheVariants as field
use Rattle.ship_tables.specs.declared.layouts.Rule.{Rule}
use Rattle.ship_tables.specs.declared.layouts.Rule.TheVariants as rule
use Rattle.ship_tables.specs.Tables.{Form, Read, heading_read, Row, number_at, first_name, table_name, cells_in, belongs, tables_after, tables_read, with_row, file_in}
use Rattle.ship_tables.specs.Record.{length_column, size_column, cells_form, hydro_form, levers_form, bonjean_form, tanks_form, least_gm_form, place_at, places_in, numbers_of, hydro_table, hydro_in, columns_from, curve_table, curves_in, tank_at, tanks_in, least_gm_in, HydroTable, CurveTable, Tank, TablesRecord, Texts, tables_of}
use Rattle.ship_tables.specs.Written.{records_under, field_as, AreCellsWritten, IsHydroWritten, AreCurvesWritten, AreTanksWritten, IsLeastGmWritten, IsWritten}
use Rattle.units_core.proofs.OutcomeLemmas.{went_on, same_ok}
use Rattle.ship_tables.proofs.FileWalks.{rows_of-tables}
use Rattle.ship_tables.proofs.FileLemmas.{IsField, AreFields, file-keeps}
use Rattle.ship_tables.proofs.MeaningLemmas.{cells-length, slice_get-replicate}
use Rattle.ship_tables.proofs.SoundLemmas.{IsRow, row-sound, all-push}

-- the rows are what the records are read as, one for each
abbrev pub AreRows : List Column → List Fields → List Row → Type 0
AreRows cs [] [] = ⊤
AreRows cs (texts ∷ records) (row ∷ rows) = AreFields cs texts row × AreRows cs records rows
AreRows cs _ _ = ⊥

rows-push : (cs : List Column) (records : List Fields) (rows : List Row) (texts : Fields) (row : Row) → AreRows cs records rows → AreFields cs texts row
    → AreRows cs (records ++ texts ∷ []) (rows ++ row ∷ [])
rows-push cs [] [] texts row h k = (k, tt)
rows-push cs [] (r ∷ rows) texts row h k = absurd h
rows-push cs (t ∷ records) [] texts row h k = absurd h
rows-push cs (t ∷ records) (r ∷ rows) texts row h k = (h.0, rows-push cs records rows texts row h.1 k)

-- the rows of all tables that were read, one table after another
abbrev pub all_rows : Rule → Read → List Row
all_rows (rule.Together gap tables) r = flat_map (λ t. t) r.ended ++ r.rows
all_rows _ r = r.rows

rows-more : (r : Rule) (read : Read) (row : Row) → all_rows r (with_row r read row) ≡ all_rows r read ++ row ∷ []
rows-more rule.Distinct read row = refl
rows-more (rule.Rising gap) read row = refl
rows-more (rule.Together gap tables) read row =
    elim (cases_Bool (belongs (rule.Together gap tables) read.rows row)) [
      | inl b ↦ rw b (sym (append_assoc (flat_map (λ (t : List Row). t) read.ended) read.rows (row ∷ [])))
      | inr b ↦ rw (b, rows_of-tables read.ended read.rows) refl
    ]

none-read : (r : Rule) → all_rows r heading_read ≡ []
none-read rule.Distinct = refl
none-read (rule.Rising gap) = refl
none-read (rule.Together gap tables) = refl

-- the rows of a table have one name
abbrev pub HasName : List Row → Type 0
HasName rows = AllByRecursion (λ row. first_name row ≡ table_name rows) rows

abbrev pub HaveNames : Rule → Read → Type 0
HaveNames (rule.Together gap tables) r = AllByRecursion HasName r.ended × HasName r.rows
HaveNames _ r = ⊤

none-named : (r : Rule) → HaveNames r heading_read
none-named rule.Distinct = tt
none-named (rule.Rising gap) = tt
none-named (rule.Together gap tables) = (tt, tt)

name-more : (gap : ℤ) (tables : ℕ) (rows : List Row) (row : Row) → belongs (rule.Together gap tables) rows row ≡ true → HasName rows → HasName (rows ++ row ∷ [])
name-more gap tables [] row b h = cc
name-more gap tables (first ∷ rows) row b h =
    let same : first_name row ≡ first_name first = (bytes_eq-Decides (first_name row) (first_name first)).0 b in
    (refl, all-push (λ r. first_name r ≡ first_name first) rows row h.1 same)

all-named : (ended : List (List Row)) (rows : List Row) → AllByRecursion HasName ended → HasName rows → AllByRecursion HasName (tables_after ended rows)
all-named ended [] h k = h
all-named ended (row ∷ rows) h k = all-push HasName ended (row ∷ rows) h k

names-more : (r : Rule) (read : Read) (row : Row) → HaveNames r read → HaveNames r (with_row r read row)
names-more rule.Distinct read row h = tt
names-more (rule.Rising gap) read row h = tt
names-more (rule.Together gap tables) read row h =
    elim (cases_Bool (belongs (rule.Together gap tables) read.rows row)) [
      | inl b ↦ rw b (h.0, name-more gap tables read.rows row b h.1)
      | inr b ↦ rw b (all-named read.ended read.rows h.0 h.1, (refl, tt))
    ]

-- what was read is what these records are
pub record IsReading (form : Form) (records : List Fields) (r : Read) : Type 0 where
  pub rows : AreRows form.columns records (all_rows form.rule r)
  pub names : HaveNames form.rule r

heading-reading : (form : Form) → IsReading form [] heading_read
heading-reading form = record { rows = rw (none-read form.rule) tt; names = none-named form.rule }

file_in-reading : (form : Form) (text : List ℕ) (r : Read) → file_in form text ≡ Ok r → IsReading form (records_under text) r
file_in-reading form text r e =
    (file-keeps form (IsReading form) (heading-reading form)
    (λ records before texts row k is comes. record {
      rows = rw (rows-more form.rule before row) (rows-push form.columns records (all_rows form.rule before) texts row k.rows is);
      names = names-more form.rule before row k.names;
    })
    text r e).0

-- the number of a column
number-field : (c : Column) (text : List ℕ) (f : Field) (low high : ℤ) → IsField c text f → c ≡ column.Number low high → number_in text ≡ Some (number_at (f ∷ []) 0)
number-field column.Cell text f low high h e = cc
number-field column.Name text f low high h e = cc
number-field (column.Number l u) text (field.Cell c) low high h e = absurd h
number-field (column.Number l u) text (field.Name n) low high h e = absurd h
number-field (column.Number l u) text (field.Number z) low high h e = h.0 ∙ refl

row-number : (cs : List Column) (ts : Fields) (fs : Row) (k : ℕ) (low high : ℤ) → AreFields cs ts fs → slice_get cs k ≡ Some (column.Number low high)
    → field_as number_in k ts ≡ Some (number_at fs k)
row-number [] ts fs k low high h e = cc
row-number (c ∷ cs) [] fs k low high h e = absurd h
row-number (c ∷ cs) (t ∷ ts) [] k low high h e = absurd h
row-number (c ∷ cs) (t ∷ ts) (f ∷ fs) zero low high h e = let same : c ≡ column.Number low high = cc in number-field c t f low high h.0 same
row-number (c ∷ cs) (t ∷ ts) (f ∷ fs) (suc k) low high h e = row-number cs ts fs k low high h.1 e

module _ (cs : List Column) where
  rows-numbers : (records : List Fields) (rows : List Row) (k : ℕ) (low high : ℤ) → AreRows cs records rows → slice_get cs k ≡ Some (column.Number low high)
      → map (field_as number_in k) records ≡ map Some (numbers_of k rows)
  rows-numbers [] [] k low high h e = refl
  rows-numbers [] (row ∷ rows) k low high h e = absurd h
  rows-numbers (ts ∷ records) [] k low high h e = absurd h
  rows-numbers (ts ∷ records) (row ∷ rows) k low high h e = rw (row-number cs ts row k low high h.0 e, rows-numbers records rows k low high h.1 e) refl

  rows-cells : (records : List Fields) (rows : List Row) → AreRows (column.Cell ∷ cs) records rows → map (field_as cell_in 0) records ≡ map Some (cells_in rows)
  rows-cells [] [] h = refl
  rows-cells [] (row ∷ rows) h = absurd h
  rows-cells (ts ∷ records) [] h = absurd h
  rows-cells ([] ∷ records) (row ∷ rows) h = absurd h.0
  rows-cells ((t ∷ ts) ∷ records) ([] ∷ rows) h = absurd h.0
  rows-cells ((t ∷ ts) ∷ records) ((field.Number z ∷ fs) ∷ rows) h = absurd h.0.0
  rows-cells ((t ∷ ts) ∷ records) ((field.Name n ∷ fs) ∷ rows) h = absurd h.0.0
  rows-cells ((t ∷ ts) ∷ records) ((field.Cell c ∷ fs) ∷ rows) h = rw (h.0.0, rows-cells records rows h.1) refl

  rows-names : (records : List Fields) (rows : List Row) → AreRows (column.Name ∷ cs) records rows → map (field_as Some 0) records ≡ map Some (map first_name rows)
  rows-names [] [] h = refl
  rows-names [] (row ∷ rows) h = absurd h
  rows-names (ts ∷ records) [] h = absurd h
  rows-names ([] ∷ records) (row ∷ rows) h = absurd h.0
  rows-names ((t ∷ ts) ∷ records) ([] ∷ rows) h = absurd h.0
  rows-names ((t ∷ ts) ∷ records) ((field.Number z ∷ fs) ∷ rows) h = absurd h.0.0
  rows-names ((t ∷ ts) ∷ records) ((field.Cell c ∷ fs) ∷ rows) h = absurd h.0.0
  rows-names ((t ∷ ts) ∷ records) ((field.Name n ∷ fs) ∷ rows) h = rw (h.0.0.0, rows-names records rows h.1) refl

-- `hydro.csv`
hydro-written : (text : List ℕ) (h : HydroTable) → hydro_in text ≡ Ok h → IsHydroWritten text h
hydro-written text h e =
    let read = went_on (file_in hydro_form text) (λ r. Ok (hydro_table r.rows)) h e in
    let rows = (file_in-reading hydro_form text read.0 read.1).rows in
    let cs = hydro_form.columns in
    rw (← same_ok (hydro_table read.0.rows) h read.2)
    (record {
      kg = rows-numbers cs (records_under text) read.0.rows 0 (pos 1) (pos 1000000000) rows refl;
      draught = rows-numbers cs (records_under text) read.0.rows 1 (pos 0) (pos 100000) rows refl;
      kmt = rows-numbers cs (records_under text) read.0.rows 2 (pos 0) (pos 1000000) rows refl;
      lcb = rows-numbers cs (records_under text) read.0.rows 3 (neg_ℤ (pos 1000000)) (pos 1000000) rows refl;
      lcf = rows-numbers cs (records_under text) read.0.rows 4 (neg_ℤ (pos 1000000)) (pos 1000000) rows refl;
      mct = rows-numbers cs (records_under text) read.0.rows 5 (pos 1) (pos 1000000000) rows refl;
    })

-- a table of curves
column-at : (k n i : ℕ) (rows : List Row) (zs : List ℤ) → slice_get (columns_from k n rows) i ≡ Some zs → (i < n) × (zs ≡ numbers_of (k + i) rows)
column-at k zero i rows zs e = cc
column-at k (suc n) zero rows zs e = (omega arith, let same : numbers_of k rows ≡ zs = cc in let here : k + 0 ≡ k = omega arith in rw here (sym same))
column-at k (suc n) (suc i) rows zs e =
    let more = column-at (suc k) n i rows zs e in
    let next : suc k + i ≡ k + suc i = omega arith in
    (let less = more.0 in omega (arith, less), rw next at more.1)

curves-written : (low high : ℤ) (n m : ℕ) (text : List ℕ) (rows : List Row)
    → AreRows (column.Number low high ∷ replicate n (column.Number (pos 0) (pos m))) (records_under text) rows → AreCurvesWritten text (curve_table n rows)
curves-written low high n m text rows h =
    let cs = column.Number low high ∷ replicate n (column.Number (pos 0) (pos m)) in
    record {
      arguments = rows-numbers cs (records_under text) rows 0 low high h refl;
      columns = λ k zs e.
          let at_k = column-at 1 n k rows zs e in
          let next : k + 1 ≡ suc k = omega arith in
          let one : 1 + k ≡ suc k = omega arith in
          let is : zs ≡ numbers_of (suc k) rows = rw one at at_k.1 in
          rw (next, is) (rows-numbers cs (records_under text) rows (suc k) (pos 0) (pos m) h (slice_get-replicate n k (column.Number (pos 0) (pos m)) at_k.0));
    }

curves_in-reading : (form : Form) (n : ℕ) (text : List ℕ) (c : CurveTable) → curves_in form n text ≡ Ok c → (r : Read) × IsReading form (records_under text) r × (curve_table n r.rows ≡ c)
curves_in-reading form n text c e =
    let read = went_on (file_in form text) (λ r. Ok (curve_table n r.rows)) c e in
    (read.0, file_in-reading form text read.0 read.1, same_ok (curve_table n read.0.rows) c read.2)

levers-written : (text : List ℕ) (c : CurveTable) → curves_in levers_form 13 text ≡ Ok c → AreCurvesWritten text c
levers-written text c e =
    let read = curves_in-reading levers_form 13 text c e in
    rw (← read.2) (curves-written (pos 1) (pos 1000000000) 13 1000000 text read.0.rows read.1.rows)

bonjean-written : (stations : ℕ) (text : List ℕ) (c : CurveTable) → curves_in (bonjean_form stations) stations text ≡ Ok c → AreCurvesWritten text c
bonjean-written stations text c e =
    let read = curves_in-reading (bonjean_form stations) stations text c e in
    rw (← read.2) (curves-written (pos 0) (pos 100000) stations 100000000 text read.0.rows read.1.rows)

least_gm-written : (text : Option (List ℕ)) (c : Option CurveTable) → least_gm_in text ≡ Ok c → IsLeastGmWritten text c
least_gm-written None c e = sym (same_ok None c e)
least_gm-written (Some text) c e =
    let some = went_on (curves_in least_gm_form 1 text) (λ t. Ok (Some t)) c e in
    let read = curves_in-reading least_gm_form 1 text some.0 some.1 in
    let written : AreCurvesWritten text some.0 = rw (← read.2) (curves-written (pos 1) (pos 1000000000) 1 1000000 text read.0.rows read.1.rows) in
    rw (← same_ok (Some some.0) c some.2) written

-- `cells.csv`
rows-sound : (cs : List Column) (records : List Fields) (rows : List Row) → AreRows cs records rows → AllByRecursion (IsRow cs) rows
rows-sound cs [] [] h = tt
rows-sound cs [] (row ∷ rows) h = absurd h
rows-sound cs (ts ∷ records) [] h = absurd h
rows-sound cs (ts ∷ records) (row ∷ rows) h = (row-sound cs ts row h.0, rows-sound cs records rows h.1)

placed-numbers : (f : Place → ℤ) (cells : List Cell) (rows : List Row) → length cells ≡ length rows
    → map (λ c. f c.1) (zip cells (map place_at rows)) ≡ map (λ row. f (place_at row)) rows
placed-numbers f [] [] e = refl
placed-numbers f [] (row ∷ rows) e = absurd (omega arith)
placed-numbers f (c ∷ cells) [] e = absurd (omega arith)
placed-numbers f (c ∷ cells) (row ∷ rows) e = ap (λ more. f (place_at row) ∷ more) (placed-numbers f cells rows (omega arith))

cells-written : (extent : Extent) (text : List ℕ) (cells : List (Cell × Place)) → places_in extent text ≡ Ok cells → AreCellsWritten text cells
cells-written extent text cells e =
    let read = went_on (file_in (cells_form extent) text) (λ r. Ok (zip (cells_in r.rows) (map place_at r.rows))) cells e in
    let rows = (file_in-reading (cells_form extent) text read.0 read.1).rows in
    let cs = (cells_form extent).columns in
    let more = length_column ∷ length_column ∷ length_column ∷ size_column ∷ [] in
    let count = cells-length more read.0.rows (rows-sound (column.Cell ∷ more) (records_under text) read.0.rows rows) in
    let places : length (map place_at read.0.rows) ≡ length (cells_in read.0.rows) = length-map read.0.rows place_at ∙ sym count in
    let column = λ (f : Place → ℤ). ap (map {B = Option ℤ} Some) (sym (placed-numbers f (cells_in read.0.rows) read.0.rows count)) in
    rw (← same_ok (zip (cells_in read.0.rows) (map place_at read.0.rows)) cells read.2)
    (record {
      cell = rows-cells more (records_under text) read.0.rows rows ∙ ap (map {B = Option Cell} Some) (sym (keys_of-zip (cells_in read.0.rows) (map place_at read.0.rows) places));
      x = rows-numbers cs (records_under text) read.0.rows 1 (neg_ℤ (pos 1000000)) (pos 1000000) rows refl ∙ column (λ p. p.x);
      y = rows-numbers cs (records_under text) read.0.rows 2 (neg_ℤ (pos 1000000)) (pos 1000000) rows refl ∙ column (λ p. p.y);
      z = rows-numbers cs (records_under text) read.0.rows 3 (neg_ℤ (pos 1000000)) (pos 1000000) rows refl ∙ column (λ p. p.z);
      half = rows-numbers cs (records_under text) read.0.rows 4 (pos 0) (pos 1000000) rows refl ∙ column (λ p. p.half);
    })

-- `tanks.csv`
tables-numbers : (k : ℕ) (tables : List (List Row)) → numbers_of k (flat_map (λ t. t) tables) ≡ flat_map (λ t. numbers_of k t) tables
tables-numbers k [] = refl
tables-numbers k (t ∷ tables) = map-append (λ row. number_at row k) t (flat_map (λ u. u) tables) ∙ ap (λ more. numbers_of k t ++ more) (tables-numbers k tables)

tanks-column : {A : Type 0} (f : Tank → List A) (tables : List (List Row)) → flat_map (λ t. f (tank_at t)) tables ≡ flat_map f (map tank_at tables)
tanks-column f [] = refl
tanks-column f (t ∷ tables) = ap (λ more. f (tank_at t) ++ more) (tanks-column f tables)

one-name : (name : List ℕ) (rows : List Row) → AllByRecursion (λ row. first_name row ≡ name) rows → map first_name rows ≡ replicate (length rows) name
one-name name [] h = refl
one-name name (row ∷ rows) h = rw (h.0, one-name name rows h.1) refl

numbers-count : (k : ℕ) (rows : List Row) → length (numbers_of k rows) ≡ length rows
numbers-count k rows = length-map rows (λ row. number_at row k)

tables-names : (tables : List (List Row)) → AllByRecursion HasName tables
    → map first_name (flat_map (λ t. t) tables) ≡ flat_map (λ t. replicate (length (numbers_of 1 t)) (table_name t)) tables
tables-names [] h = refl
tables-names (t ∷ tables) h =
    map-append first_name t (flat_map (λ u. u) tables)
    ∙ (rw (one-name (table_name t) t h.0, numbers-count 1 t, tables-names tables h.1) refl)

tanks-written : (extent : Extent) (text : List ℕ) (tanks : List Tank) → tanks_in extent text ≡ Ok tanks → AreTanksWritten text tanks
tanks-written extent text tanks e =
    let read = went_on (file_in (tanks_form extent) text) (λ r. Ok (map tank_at (tables_read r))) tanks e in
    let reading = file_in-reading (tanks_form extent) text read.0 read.1 in
    let tables = tables_read read.0 in
    let cs = (tanks_form extent).columns in
    let more = column.Number (pos 0) (pos 1000000000) ∷ length_column ∷ length_column ∷ length_column ∷ size_column ∷ column.Number (pos 0) (pos 1000000000000) ∷ [] in
    let rows : AreRows cs (records_under text) (flat_map (λ t. t) tables) = rw (rows_of-tables read.0.ended read.0.rows) reading.rows in
    let named = all-named read.0.ended read.0.rows reading.names.0 reading.names.1 in
    let number = λ (k : ℕ) (low high : ℤ) (c : slice_get cs k ≡ Some (column.Number low high)).
    rows-numbers cs (records_under text) (flat_map (λ t. t) tables) k low high rows c ∙ ap (map {B = Option ℤ} Some) (tables-numbers k tables) in
    let column = λ (f : Tank → List ℤ). ap (map {B = Option ℤ} Some) (tanks-column f tables) in
    rw (← same_ok (map tank_at tables) tanks read.2)
    (record {
      name = rows-names more (records_under text) (flat_map (λ t. t) tables) rows
          ∙ ap (map {B = Option (List ℕ)} Some) (tables-names tables named ∙ tanks-column (λ tank. replicate (length tank.rows.kg) tank.name) tables);
      kg = number 1 (pos 0) (pos 1000000000) refl ∙ column (λ tank. tank.rows.kg);
      x = number 2 (neg_ℤ (pos 1000000)) (pos 1000000) refl ∙ column (λ tank. tank.rows.x);
      y = number 3 (neg_ℤ (pos 1000000)) (pos 1000000) refl ∙ column (λ tank. tank.rows.y);
      z = number 4 (neg_ℤ (pos 1000000)) (pos 1000000) refl ∙ column (λ tank. tank.rows.z);
      half = number 5 (pos 0) (pos 1000000) refl ∙ column (λ tank. tank.rows.half);
      fsm = number 6 (pos 0) (pos 1000000000000) refl ∙ column (λ tank. tank.rows.fsm);
    })

-- tables that were read file by file are written in the texts
pub set-written : (extent : Extent) (stations : ℕ) (texts : Texts) (t : TablesRecord) → places_in extent texts.cells ≡ Ok t.cells → hydro_in texts.hydro ≡ Ok t.hydro
    → curves_in levers_form 13 texts.levers ≡ Ok t.levers → curves_in (bonjean_form stations) stations texts.bonjean ≡ Ok t.bonjean
    → tanks_in extent texts.tanks ≡ Ok t.tanks → least_gm_in texts.least_gm ≡ Ok t.least_gm → IsWritten texts t
set-written extent stations texts t cells_are hydro_is levers_are bonjean_is tanks_are least_gm_is = record {
  cells = cells-written extent texts.cells t.cells cells_are;
  hydro = hydro-written texts.hydro t.hydro hydro_is;
  levers = levers-written texts.levers t.levers levers_are;
  bonjean = bonjean-written stations texts.bonjean t.bonjean bonjean_is;
  tanks = tanks-written extent texts.tanks t.tanks tanks_are;
  least_gm = least_gm-written texts.least_gm t.least_gm least_gm_is;
}

-- the tables that the texts write
pub tables-written : (extent : Extent) (stations : ℕ) (texts : Texts) (t : TablesRecord) → tables_of extent stations texts ≡ Ok t → IsWritten texts t
tables-written extent stations texts t e =
    let cells = went_on (places_in extent texts.cells) _ t e in
    let hydro = went_on (hydro_in texts.hydro) _ t cells.2 in
    let levers = went_on (curves_in levers_form 13 texts.levers) _ t hydro.2 in
    let bonjean = went_on (curves_in (bonjean_form stations) stations texts.bonjean) _ t levers.2 in
    let tanks = went_on (tanks_in extent texts.tanks) _ t bonjean.2 in
    let least_gm = went_on (least_gm_in texts.least_gm) _ t tanks.2 in
    let all : TablesRecord = record { cells = cells.0; hydro = hydro.0; levers = levers.0; bonjean = bonjean.0; tanks = tanks.0; least_gm = least_gm.0 } in
    rw (← same_ok all t least_gm.2) (set-written extent stations texts all cells.1 hydro.1 levers.1 bonjean.1 tanks.1 least_gm.1)
