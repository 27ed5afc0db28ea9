-- Bookkeeping: the state of a reader of a file, as what was read of the file.
use Rattle.std.specs.Prelude.{◌≡◌, ℕ, ◌+◌, ◌*◌, ◌≤◌, List, [], ◌∷◌, ◌++◌, length, map, Option, Some}
use Rattle.std.specs.Prelude.{if◌then◌else◌}
use Rattle.std.specs.List.{list_any}
use Rattle.units_core.specs.declared.cells.Cell.{Cell}
use Rattle.units_core.specs.Cells.{cell_eq}
use Rattle.ship_tables.specs.declared.layouts.Rule.{Rule}
use Rattle.ship_tables.specs.declared.layouts.Rule.TheVariants as rule
use Rattle.ship_tables.specs.declared.reading.Gathered.{Gathered}
use Rattle.ship_tables.specs.Tables.{Form, Read, Row, so_far, most_tables, tables_read, cells_in}
use Rattle.ship_tables.specs.Tables.{table_name}

-- the cells by which a reader of the file knows a double, and those cells once a row of this cell
-- came; a rule that asks for none needs none
abbrev pub seen_by : Rule → List Row → List Cell
seen_by rule.Distinct rows = cells_in rows
seen_by _ rows = []

abbrev pub remembered : Rule → List Cell → Option Cell → List Cell
remembered rule.Distinct cells (Some c) =
    if list_any (cell_eq c) cells then cells else cells ++ c ∷ []
remembered _ cells _ = cells

-- the names by which a reader of the file knows its tables; a file of one table has no need of it
abbrev pub names_by : Rule → List (List Row) → List (List ℕ)
names_by (rule.Together gap tables) read = map table_name read
names_by _ read = []

-- what was read
abbrev pub read_by : Gathered → Read
read_by g = so_far g.line g.ended.items g.rows.items

-- the names that are held
abbrev pub names_held : Gathered → List (List ℕ)
names_held g = map (λ v. v.items) g.names.keys

-- hardly more rows than a table may have, no more tables than there may be, so few records, and
-- what the earlier ones are known by
pub record HasGathered (form : Form) (g : Gathered) : Type 0 where
  pub most : length g.rows.items ≤ form.most + 1
  pub tables : length g.ended.items ≤ most_tables form.rule
  pub records : g.line ≤ 2 + length g.ended.items * (form.most + 1) + length g.rows.items
  pub seen : g.cells.keys ≡ seen_by form.rule g.rows.items
  pub named : names_held g ≡ names_by form.rule (tables_read (read_by g))
