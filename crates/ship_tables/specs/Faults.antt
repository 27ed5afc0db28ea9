-- A file of the profile with its rows, or the fault of a text that is none; and the first file of a
-- ship's tables that has a fault.
use Rattle.std.specs.Prelude.{◌≡◌, ◌≢◌, ◌⊎◌, ℕ, ◌+◌, List, [], ◌∷◌, ◌++◌, length, map, zip, take}
use Rattle.std.specs.Prelude.{slice_get, Option, Some, None, Result, Ok, Err, true, false}
use Rattle.std.specs.List.{fold, flat_map}
use Rattle.csv_text.specs.Reading.{Fields, records_of}
use Rattle.ship_tables.specs.declared.faults.TableFault.{TableFault}
use Rattle.ship_tables.specs.declared.faults.TableFault.TheVariants.{BadCsv, TooFewRows}
use Rattle.ship_tables.specs.declared.layouts.Column.{Column}
use Rattle.ship_tables.specs.declared.layouts.Field.{Field}
use Rattle.ship_tables.specs.declared.extents.Extent.{Extent}
use Rattle.ship_tables.specs.Record.{Texts, TablesRecord, cells_form, hydro_form, levers_form}
use Rattle.ship_tables.specs.Record.{bonjean_form, tanks_form, least_gm_form, places_in, hydro_in}
use Rattle.ship_tables.specs.Record.{curves_in, tanks_in, least_gm_in}
use Rattle.ship_tables.specs.Tables.{Form, Row, Read, heading_read, tables_read, with_row, field_in}
use Rattle.ship_tables.specs.Tables.{row_in, row_fault, is_short}

-- what is read of a file once these rows came
abbrev pub read_after : Form → List Row → Read
read_after form rows = fold (with_row form.rule) heading_read rows

-- all rows of it, table by table
abbrev pub rows_of : Read → List Row
rows_of r = flat_map (λ table. table) (tables_read r)

-- The text has a heading of a field for each column and then these records, or it has neither
-- heading nor records.
abbrev pub AreUnderHeading : Form → List ℕ → List Fields → Type 0
AreUnderHeading form text records =
    ((heading : Fields) × (records_of text ≡ heading ∷ records)
    × (length heading ≡ length form.columns))
    ⊎ ((records_of text ≡ []) × (records ≡ []))

-- Each record has n fields.
abbrev pub HaveFields : ℕ → List Fields → Type 0
HaveFields n records = (k : ℕ) (fields : Fields) → slice_get records k ≡ Some fields
    → length fields ≡ n

-- what a field is in its column
abbrev pub read_in : Form → ℕ → Column × List ℕ → Result Field TableFault
read_in form line p = field_in form.file line p.0 p.1

-- The fields of a record are those of a row, one for each column.
pub record IsRowOf (form : Form) (line : ℕ) (fields : Fields) (row : Row) : Type 0 where
  pub as_many : length fields ≡ length form.columns
  pub read : map (read_in form line) (zip form.columns fields) ≡ map Ok row

-- A field is refused with this fault, and none to the left of it is refused.
pub record IsFieldFault (form : Form) (line : ℕ) (fields : Fields) (f : TableFault) : Type 0 where
  pub as_many : length fields ≡ length form.columns
  pub before : List (Column × List ℕ)
  pub column : Column
  pub field : List ℕ
  pub behind : List (Column × List ℕ)
  pub row : Row
  pub fields_are : zip form.columns fields ≡ before ++ (column, field) ∷ behind
  pub read_before : map (read_in form line) before ≡ map Ok row
  pub refused : field_in form.file line column field ≡ Err f

-- The record has another number of fields than there are columns, or a field is refused.
abbrev pub IsRowFault : Form → ℕ → Fields → TableFault → Type 0
IsRowFault form line fields f =
    ((length fields ≢ length form.columns) × (f ≡ BadCsv form.file line))
    ⊎ IsFieldFault form line fields f

-- A row can be the next after those before it.
abbrev pub CanCome : Form → List Row → Row → Type 0
CanCome form before row = row_fault form (read_after form before) row ≡ None

-- Each record writes its row, which can come after those before it. The heading is record 1.
pub record AreRowsOf (form : Form) (records : List Fields) (rows : List Row) : Type 0 where
  pub as_many : length rows ≡ length records
  pub each : (k : ℕ) (fields : Fields) (row : Row) → slice_get records k ≡ Some fields
      → slice_get rows k ≡ Some row
      → (row_in form (k + 2) fields ≡ Ok row) × CanCome form (take k rows) row

-- The text is a file of this form, with these rows, and no table of it has too few.
pub record IsFile (form : Form) (text : List ℕ) (rows : List Row) : Type 0 where
  pub records : List Fields
  pub under : AreUnderHeading form text records
  pub are_rows : AreRowsOf form records rows
  pub enough : is_short form.rule form.least (read_after form rows) ≡ false

-- the heading has another number of fields than there are columns
pub record IsHeadingFault (form : Form) (text : List ℕ) (f : TableFault) : Type 0 where
  pub heading : Fields
  pub records : List Fields
  pub records_are : records_of text ≡ heading ∷ records
  pub other : length heading ≢ length form.columns
  pub fault_is : f ≡ BadCsv form.file 1

-- A record is refused behind these rows: it writes no row, or its row can't come after them.
abbrev pub IsRefusedRecord : Form → List Row → Fields → TableFault → Type 0
IsRefusedRecord form rows fields f =
    (row_in form (length rows + 2) fields ≡ Err f)
    ⊎ ((row : Row) × (row_in form (length rows + 2) fields ≡ Ok row)
    × (row_fault form (read_after form rows) row ≡ Some f))

-- A record is refused, and none before it is refused.
pub record IsRecordFault (form : Form) (text : List ℕ) (f : TableFault) : Type 0 where
  pub before : List Fields
  pub fields : Fields
  pub behind : List Fields
  pub rows : List Row
  pub under : AreUnderHeading form text (before ++ fields ∷ behind)
  pub are_rows : AreRowsOf form before rows
  pub refused : IsRefusedRecord form rows fields f

-- No record is refused, and a table has too few rows.
pub record IsShortFile (form : Form) (text : List ℕ) (f : TableFault) : Type 0 where
  pub records : List Fields
  pub rows : List Row
  pub under : AreUnderHeading form text records
  pub are_rows : AreRowsOf form records rows
  pub short : is_short form.rule form.least (read_after form rows) ≡ true
  pub fault_is : f ≡ TooFewRows form.file

-- The fault of a text that is no file of this form.
abbrev pub IsFileFault : Form → List ℕ → TableFault → Type 0
IsFileFault form text f =
    IsHeadingFault form text f ⊎ (IsRecordFault form text f ⊎ IsShortFile form text f)

-- a file that may be missing
abbrev pub least_gm_file : Option (List ℕ) → List (Form × List ℕ)
least_gm_file None = []
least_gm_file (Some text) = (least_gm_form, text) ∷ []

-- the files of a ship's tables in their order, each with its form
abbrev pub files_of : Extent → ℕ → Texts → List (Form × List ℕ)
files_of extent stations texts =
    (cells_form extent, texts.cells) ∷ (hydro_form, texts.hydro) ∷ (levers_form, texts.levers)
    ∷ (bonjean_form stations, texts.bonjean) ∷
    (tanks_form extent, texts.tanks) ∷ least_gm_file texts.least_gm

-- Each table is what its own file writes.
pub record AreTablesOf (extent : Extent) (stations : ℕ) (texts : Texts)
    (t : TablesRecord) : Type 0 where
  pub cells : places_in extent texts.cells ≡ Ok t.cells
  pub hydro : hydro_in texts.hydro ≡ Ok t.hydro
  pub levers : curves_in levers_form 13 texts.levers ≡ Ok t.levers
  pub bonjean : curves_in (bonjean_form stations) stations texts.bonjean ≡ Ok t.bonjean
  pub tanks : tanks_in extent texts.tanks ≡ Ok t.tanks
  pub least_gm : least_gm_in texts.least_gm ≡ Ok t.least_gm

-- One of these texts has this fault, and each before it is a file of its form.
pub record IsFirstFileFault (files : List (Form × List ℕ)) (f : TableFault) : Type 0 where
  pub before : List (Form × List ℕ)
  pub form : Form
  pub text : List ℕ
  pub behind : List (Form × List ℕ)
  pub files_are : files ≡ before ++ (form, text) ∷ behind
  pub good_before : (k : ℕ) (file : Form × List ℕ) → slice_get before k ≡ Some file
      → (rows : List Row) × IsFile file.0 file.1 rows
  pub fault_is : IsFileFault form text f
