-- A CSV file of the profile as a table, or as several one after another: what is said of it in
-- data, and the rows that its text writes, or its first fault.
use Rattle.std.specs.Prelude.{ℕ, ◌+◌, ◌-◌, ℤ, pos, ◌-ℤ◌, Bool, true, false, int_lt, List, [], ◌∷◌}
use Rattle.std.specs.Prelude.{◌++◌, ◌==◌, ◌&&◌, if◌then◌else◌, nat_le, nat_lt, length, zip}
use Rattle.std.specs.Prelude.{filter_map, slice_get, Option, Some, None, option_map, Result, Ok}
use Rattle.std.specs.Prelude.{Err}
use Rattle.std.specs.List.{list_any, find}
use Rattle.std.specs.Option.{option_or}
use Rattle.std.specs.Str.{bytes_eq}
use Rattle.csv_text.specs.Numbers.{number_in}
use Rattle.csv_text.specs.Reading.{Fields, records_of}
use Rattle.units_core.specs.declared.cells.Cell.{Cell}
use Rattle.units_core.specs.Cells.{cell_in, cell_eq}
use Rattle.ship_tables.specs.declared.faults.File.{File}
use Rattle.ship_tables.specs.declared.faults.TableFault.{TableFault}
use Rattle.ship_tables.specs.declared.faults.TableFault.TheVariants.{BadCsv, BadNumber, OutOfLimits}
use Rattle.ship_tables.specs.declared.faults.TableFault.TheVariants.{NotRising, DoubleCell}
use Rattle.ship_tables.specs.declared.faults.TableFault.TheVariants.{OutsideStations, TooFewRows}
use Rattle.ship_tables.specs.declared.layouts.Column.{Column}
use Rattle.ship_tables.specs.declared.layouts.Column.TheVariants as column
use Rattle.ship_tables.specs.declared.layouts.Field.{Field}
use Rattle.ship_tables.specs.declared.layouts.Field.TheVariants as field
use Rattle.ship_tables.specs.declared.layouts.Rule.{Rule}
use Rattle.ship_tables.specs.declared.layouts.Rule.TheVariants as rule
use Rattle.ship_tables.specs.declared.layouts.Stands.{Stands}
use Rattle.ship_tables.specs.declared.layouts.Layout.{Layout}
use Rattle.ship_tables.specs.Extents.{encloses}
use Rattle.units_core.specs.Outcome.{◌>>=◌, or_fault, unless, demand, within}
use Rattle.ship_tables.specs.Outcome.{each, in_turn}

-- what is said of a file: how the fields of a row are read, the least and the greatest number of
-- rows of a table, the rule that each row keeps after those before it, and the columns in which its
-- rows give the place of a body
pub record Form : Type 0 where
  pub file : File
  pub columns : List Column
  pub least : ℕ
  pub most : ℕ
  pub rule : Rule
  pub stands : Option Stands

abbrev pub form_of : Layout → Form
form_of l = record {
  file = l.file;
  columns = l.columns.now;
  least = l.least;
  most = l.most;
  rule = l.rule;
  stands = l.stands;
}

abbrev pub Row : Type 0
Row = List Field

-- the number of a field, 0 for one that is none
abbrev pub number_of : Option Field → ℤ
number_of (Some (field.Number z)) = z
number_of _ = pos 0

abbrev pub number_at : Row → ℕ → ℤ
number_at row k = number_of (slice_get row k)

-- the cell, and the name, that a row begins with
abbrev pub first_cell : Row → Option Cell
first_cell (field.Cell c ∷ fs) = Some c
first_cell _ = None

abbrev pub first_name : Row → List ℕ
first_name (field.Name n ∷ fs) = n.items
first_name _ = []

abbrev pub cells_in : List Row → List Cell
cells_in rows = filter_map first_cell rows

-- the name of a table is that of its first row
abbrev pub table_name : List Row → List ℕ
table_name [] = []
table_name (row ∷ rows) = first_name row

-- the field that a text is in its column: unreadable, out of limits, in this order
abbrev pub field_in : File → ℕ → Column → List ℕ → Result Field TableFault
field_in file line column.Cell text =
    or_fault (BadNumber file line) (cell_in text) >>= (λ c. Ok (field.Cell c))
field_in file line column.Name text =
    demand (OutOfLimits file line) (nat_le 1 (length text) && nat_le (length text) 16)
    (field.Name (record { items = text }))
field_in file line (column.Number low high) text =
    or_fault (BadNumber file line) (number_in text)
    >>= (λ n. within (OutOfLimits file line) low high n >>= (λ z. Ok (field.Number z)))

-- the row that the fields of a record are: as many as there are columns, then each from left to
-- right
abbrev pub row_in : Form → ℕ → Fields → Result Row TableFault
row_in form line texts =
    demand (BadCsv form.file line) (length texts == length form.columns) texts >>= (λ ts.
    each (λ p. field_in form.file line p.0 p.1) (zip form.columns ts))

-- what was read of a file: the number of the record that comes next, the heading being 1; the
-- tables that have ended; and the rows of the one that is being read
pub record Read : Type 0 where
  pub line : ℕ
  pub ended : List (List Row)
  pub rows : List Row

abbrev pub so_far : ℕ → List (List Row) → List Row → Read
so_far line ended rows = record { line = line; ended = ended; rows = rows }

abbrev pub heading_read : Read
heading_read = so_far 2 [] []

-- the tables that have ended, and the one that is being read, once it has a row
abbrev pub tables_after : List (List Row) → List Row → List (List Row)
tables_after ended [] = ended
tables_after ended (row ∷ rows) = ended ++ (row ∷ rows) ∷ []

abbrev pub tables_read : Read → List (List Row)
tables_read r = tables_after r.ended r.rows

-- whether a row belongs to the table that is being read: it has the table's name, where a file has
-- several tables
abbrev pub belongs : Rule → List Row → Row → Bool
belongs (rule.Together gap tables) [] row = false
belongs (rule.Together gap tables) (first ∷ rows) row = bytes_eq (first_name row) (first_name first)
belongs _ rows row = true

-- whether a number is further above another than the greatest gap
abbrev pub is_beyond : Option ℤ → ℤ → ℤ → Bool
is_beyond None from to = false
is_beyond (Some gap) from to = int_lt gap (to -ℤ from)

-- why a number can't follow that of the row before it, if it can't: it has to rise, by no more than
-- the greatest gap
abbrev pub step_fault : File → ℕ → Option ℤ → ℤ → ℤ → Option TableFault
step_fault file line gap from to =
    if int_lt from to then (if is_beyond gap from to then Some (OutOfLimits file line) else None)
    else Some (NotRising file line)

-- why a row can't follow the last one before it in its table, by the numbers of a column
abbrev pub rise_fault : File → ℕ → Option ℤ → ℕ → Row → Option Row → Option TableFault
rise_fault file line gap k row None = None
rise_fault file line gap k row (Some last) =
    step_fault file line gap (number_at last k) (number_at row k)

-- why a cell can't follow those before it, if it can't: no cell occurs twice
abbrev pub double_fault : ℕ → List Cell → Option Cell → Option TableFault
double_fault line before None = None
double_fault line before (Some c) =
    if list_any (cell_eq c) before then Some (DoubleCell line) else None

-- why a row can't follow those before it in its table by the rule, if it can't
abbrev pub rule_fault : Rule → File → ℕ → List Row → Row → Option TableFault
rule_fault rule.Distinct file line rows row = double_fault line (cells_in rows) (first_cell row)
rule_fault (rule.Rising gap) file line rows row =
    rise_fault file line gap 0 row (slice_get rows (length rows - 1))
rule_fault (rule.Together gap tables) file line rows row =
    rise_fault file line (Some gap) 1 row (slice_get rows (length rows - 1))

-- why a table of this number of rows can't take one more, if it can't
abbrev pub room_fault : File → ℕ → ℕ → ℕ → Option TableFault
room_fault file line most rows = if nat_lt rows most then None else Some (OutOfLimits file line)

-- the greatest number of tables of a file
abbrev pub most_tables : Rule → ℕ
most_tables (rule.Together gap tables) = tables
most_tables _ = 1

-- why a row can't begin a table, if it can't, by the number of rows of the table of its name that
-- has ended: that table is full, or isn't; or there would be a table too many
abbrev pub begin_fault : File → ℕ → ℕ → ℕ → ℕ → Option ℕ → Option TableFault
begin_fault file line most tables begun (Some rows) =
    Some (if nat_lt rows most then NotRising file line else OutOfLimits file line)
begin_fault file line most tables begun None =
    if nat_lt begun tables then None else Some (OutOfLimits file line)

-- the number of rows of the table of a name, among those that have ended
abbrev pub ended_rows : List ℕ → List (List Row) → Option ℕ
ended_rows name ended = option_map length (find (λ t. bytes_eq name (table_name t)) ended)

-- why a row's body can't be at its place, if it can't
abbrev pub place_fault : Option Stands → File → ℕ → Row → Option TableFault
place_fault None file line row = None
place_fault (Some s) file line row =
    if encloses s.extent (number_at row s.x) (number_at row s.half) then None
    else Some (OutsideStations file line)

-- why a row can't come next in its table, or begin one, if it can't
abbrev pub table_fault : Form → Read → Row → Option TableFault
table_fault form r row =
    if belongs form.rule r.rows row
    then option_or (room_fault form.file r.line form.most (length r.rows))
    (rule_fault form.rule form.file r.line r.rows row)
    else begin_fault form.file r.line form.most (most_tables form.rule) (length (tables_read r))
    (ended_rows (first_name row) r.ended)

-- why a row can't come after what was read, if it can't: its table, and then the place of its body
abbrev pub row_fault : Form → Read → Row → Option TableFault
row_fault form r row =
    option_or (table_fault form r row) (place_fault form.stands form.file r.line row)

-- what was read, and one more row: of the table that is being read, or the first of the next
abbrev pub with_row : Rule → Read → Row → Read
with_row rule r row =
    if belongs rule r.rows row
    then so_far (r.line + 1) r.ended (r.rows ++ row ∷ [])
    else so_far (r.line + 1) (tables_read r) (row ∷ [])

-- one more record: its fields, and then whether its row can come
abbrev pub added : Form → Read → Fields → Result Read TableFault
added form r texts =
    row_in form r.line texts >>= (λ row. unless (row_fault form r row) (with_row form.rule r row))

-- whether a table of the file has too few rows; a file of several tables may have none
abbrev pub is_short : Rule → ℕ → Read → Bool
is_short (rule.Together gap tables) least r =
    list_any (λ t. nat_lt (length t) least) (tables_read r)
is_short _ least r = nat_lt (length r.rows) least

abbrev pub enough : Form → Read → Result Read TableFault
enough form r = if is_short form.rule form.least r then Err (TooFewRows form.file) else Ok r

-- what the records under the heading are
abbrev pub read_under : Form → List Fields → Result Read TableFault
read_under form records = in_turn (added form) heading_read records >>= enough form

-- what the records of a file are; of the heading only the number of fields counts, and a text
-- without records has no rows
abbrev pub read_of : Form → List Fields → Result Read TableFault
read_of form [] = enough form heading_read
read_of form (heading ∷ records) =
    demand (BadCsv form.file 1) (length heading == length form.columns) records >>= read_under form

-- what the text of a file writes
abbrev pub file_in : Form → List ℕ → Result Read TableFault
file_in form text = read_of form (records_of text)
