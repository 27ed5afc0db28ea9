-- The rows of a file, gathered one after another.
use Rattle.std.proofs.Common.{◌≡◌, ◌≢◌, ◌∙◌, ℕ, zero, suc, ◌+◌, ◌*◌, ◌^◌, ◌<◌, ◌≤◌, ◌==◌, nat_lt, length, length-append, map, mul-le-mul, Fits, w32, arith, List, [], ◌∷◌, ◌++◌, true, false, Option, None, Some, Err, refl, ap, sym, inl, inr}
use Rattle.std.proofs.lemmas.Bool.{cases_Bool}
use Rattle.std.proofs.lemmas.Bool.Decides.{nat_tests}
use Rattle.std.proofs.lemmas.List.{append-nil, map-append}
use Rattle.std.proofs.lemmas.List.Elements.{filter_map-append}
use Rattle.std.specs.List.{list_any, cons_option}
use Rattle.std.specs.Str.{bytes_eq}
use Rattle.csv_text.specs.Reading.{Fields}
use Rattle.units_core.specs.declared.cells.Cell.{Cell}
use Rattle.units_core.specs.Cells.{cell_eq}
use Rattle.ship_tables.specs.declared.faults.File.{File}
use Rattle.ship_tables.specs.declared.faults.TableFault.{TableFault}
use Rattle.ship_tables.specs.declared.faults.TableFault.TheVariants.{BadCsv}
use Rattle.ship_tables.specs.declared.layouts.Rule.{Rule}
use Rattle.ship_tables.specs.declared.layouts.Rule.TheVariants as rule
use Rattle.std.specs.Option.{option_or}
use Rattle.ship_tables.specs.Outcome.{in_turn}
use Rattle.ship_tables.specs.Gathering.{seen_by, remembered, names_by}
use Rattle.ship_tables.specs.Tables.{Form, Read, heading_read, tables_after, tables_read, Row, first_cell, first_name, table_name, cells_in, belongs, double_fault, rule_fault, room_fault, begin_fault, most_tables, ended_rows, table_fault, place_fault, row_fault, added, enough, read_under, read_of}
use Rattle.ship_tables.specs.Record.{numbers_of, columns_from}
use Rattle.ship_tables.proofs.NameLemmas.{begun}

-- the cells of the rows and one more
pub cells_in-push : (rows : List Row) (row : Row) (o : Option Cell) → first_cell row ≡ o → cells_in (rows ++ row ∷ []) ≡ cells_in rows ++ cons_option o []
cells_in-push rows row o e = filter_map-append first_cell rows (row ∷ []) ∙ (rw e refl)

-- the cells that are remembered after a row that is no double are those of the rows and it
distinct-remembered : (line : ℕ) (rows : List Row) (row : Row) (o : Option Cell) (seen : List Cell) → first_cell row ≡ o → seen ≡ cells_in rows
    → double_fault line (cells_in rows) o ≡ None → remembered rule.Distinct seen o ≡ cells_in (rows ++ row ∷ [])
distinct-remembered line rows row None seen e s f = s ∙ sym (cells_in-push rows row None e ∙ append-nil (cells_in rows))
distinct-remembered line rows row (Some c) seen e s f =
    elim (cases_Bool (list_any (cell_eq c) (cells_in rows))) [
      | inl double ↦ cc (rw double at f)
      | inr other ↦ rw (s, other) (sym (cells_in-push rows row (Some c) e))
    ]

pub remembered-kept : (r : Rule) (file : File) (line : ℕ) (rows : List Row) (row : Row) (seen : List Cell) → seen ≡ seen_by r rows
    → rule_fault r file line rows row ≡ None → remembered r seen (first_cell row) ≡ seen_by r (rows ++ row ∷ [])
remembered-kept rule.Distinct file line rows row seen s f = distinct-remembered line rows row (first_cell row) seen refl s f
remembered-kept (rule.Rising gap) file line rows row seen s f = s
remembered-kept (rule.Together gap tables) file line rows row seen s f = s

-- a row that begins a table does so in a file of several
pub seen-begins : (r : Rule) (rows : List Row) (row : Row) (seen : List Cell) → belongs r rows row ≡ false → seen ≡ seen_by r rows → seen ≡ seen_by r (row ∷ [])
seen-begins rule.Distinct rows row seen b s = cc
seen-begins (rule.Rising gap) rows row seen b s = s
seen-begins (rule.Together gap tables) rows row seen b s = s

-- a row that belongs to its table leaves the names as they are
pub names-belongs : (ended : List (List Row)) (first : Row) (rows : List Row) (row : Row)
    → map table_name (ended ++ (first ∷ (rows ++ row ∷ [])) ∷ []) ≡ map table_name (ended ++ (first ∷ rows) ∷ [])
names-belongs ended first rows row = map-append table_name ended ((first ∷ (rows ++ row ∷ [])) ∷ []) ∙ sym (map-append table_name ended ((first ∷ rows) ∷ []))

pub names-kept : (r : Rule) (ended : List (List Row)) (rows : List Row) (row : Row) (names : List (List ℕ)) → belongs r rows row ≡ true
    → names ≡ names_by r (tables_after ended rows) → names ≡ names_by r (tables_after ended (rows ++ row ∷ []))
names-kept rule.Distinct ended rows row names b n = n
names-kept (rule.Rising gap) ended rows row names b n = n
names-kept (rule.Together gap tables) ended [] row names b n = cc
names-kept (rule.Together gap tables) ended (first ∷ rows) row names b n = n ∙ sym (names-belongs ended first rows row)

-- one that begins a table adds its name
pub names-begins : (r : Rule) (ended : List (List Row)) (rows : List Row) (row : Row) (names : List (List ℕ)) → belongs r rows row ≡ false
    → names ≡ names_by r (tables_after ended rows) → names ++ first_name row ∷ [] ≡ names_by r (tables_after (tables_after ended rows) (row ∷ []))
names-begins rule.Distinct ended rows row names b n = cc
names-begins (rule.Rising gap) ended rows row names b n = cc
names-begins (rule.Together gap tables) ended rows row names b n = rw n (sym (map-append table_name (tables_after ended rows) ((row ∷ []) ∷ [])))

-- the names that are held, where a row begins a table
pub names-several : (r : Rule) (ended : List (List Row)) (rows : List Row) (row : Row) (names : List (List ℕ)) → belongs r rows row ≡ false
    → names ≡ names_by r (tables_after ended rows) → names ≡ map table_name (tables_after ended rows)
names-several rule.Distinct ended rows row names b n = cc
names-several (rule.Rising gap) ended rows row names b n = cc
names-several (rule.Together gap tables) ended rows row names b n = n

pub other_name : (r : Rule) (rows : List Row) (row : Row) → belongs r rows row ≡ false → list_any (λ t. bytes_eq (first_name row) (table_name t)) (begun rows) ≡ false
other_name rule.Distinct rows row b = cc
other_name (rule.Rising gap) rows row b = cc
other_name (rule.Together gap tables) [] row b = refl
other_name (rule.Together gap tables) (first ∷ rows) row b = rw b refl

-- what a row without a fault keeps
no_first : (a b : Option TableFault) → option_or a b ≡ None → (a ≡ None) × (b ≡ None)
no_first None b e = (refl, e)
no_first (Some x) b e = cc

module _ (form : Form) (r : Read) (row : Row) (comes : row_fault form r row ≡ None) where
  pub comes-stands : place_fault form.stands form.file r.line row ≡ None
  comes-stands = (no_first (table_fault form r row) _ comes).1

  in_table : table_fault form r row ≡ None
  in_table = (no_first (table_fault form r row) _ comes).0

  module _ (b : belongs form.rule r.rows row ≡ true) where
    parts : (room_fault form.file r.line form.most (length r.rows) ≡ None) × (rule_fault form.rule form.file r.line r.rows row ≡ None)
    parts = no_first (room_fault form.file r.line form.most (length r.rows)) (rule_fault form.rule form.file r.line r.rows row) (rw b at in_table)

    pub comes-follows : rule_fault form.rule form.file r.line r.rows row ≡ None
    comes-follows = parts.1

    pub comes-room : length r.rows < form.most
    comes-room =
        elim (cases_Bool (nat_lt (length r.rows) form.most)) [
          | inl less ↦ grind (arith, nat_tests)
          | inr full ↦ let room = parts.0 in cc (rw full at room)
        ]

  module _ (b : belongs form.rule r.rows row ≡ false) where
    begins : begin_fault form.file r.line form.most (most_tables form.rule) (length (tables_read r)) (ended_rows (first_name row) r.ended) ≡ None
    begins = rw b at in_table

    begin-none : (o : Option ℕ) → begin_fault form.file r.line form.most (most_tables form.rule) (length (tables_read r)) o ≡ None → o ≡ None
    begin-none None e = refl
    begin-none (Some n) e = cc

    pub comes-new : ended_rows (first_name row) r.ended ≡ None
    comes-new = begin-none (ended_rows (first_name row) r.ended) begins

    pub comes-table : length (tables_read r) < most_tables form.rule
    comes-table =
        elim (cases_Bool (nat_lt (length (tables_read r)) (most_tables form.rule))) [
          | inl less ↦ grind (arith, nat_tests)
          | inr full ↦ let none = begins in cc (rw (comes-new, full) at none)
        ]

module _ (form : Form) (r : Read) (rest more : List Fields) (e : in_turn (added form) heading_read rest ≡ in_turn (added form) r more) where
  -- the first fault of the records that are left
  pub under-stop : (f : TableFault) → in_turn (added form) r more ≡ Err f → read_under form rest ≡ Err f
  under-stop f h = rw (e, h) refl

  -- no record is left
  pub under-end : more ≡ [] → read_under form rest ≡ enough form r
  under-end none = rw (e, none) refl

-- a heading of a field for each column, and another
pub read_of-heading : (form : Form) (rest more : List Fields) (heading : Fields) → rest ≡ heading ∷ more → length heading ≡ length form.columns
    → read_of form rest ≡ read_under form more
read_of-heading form rest more heading e h =
    let same : (length heading == length form.columns) ≡ true = grind (arith, nat_tests) in rw (e, same) refl

pub read_of-other : (form : Form) (rest more : List Fields) (heading : Fields) → rest ≡ heading ∷ more → length heading ≢ length form.columns
    → read_of form rest ≡ Err (BadCsv form.file 1)
read_of-other form rest more heading e h =
    let other : (length heading == length form.columns) ≡ false = grind (arith, nat_tests) in rw (e, other) refl

-- no record at all
pub read_of-none : (form : Form) (rest : List Fields) → rest ≡ [] → read_of form rest ≡ enough form heading_read
read_of-none form rest none = rw none refl

-- at most m rows for each table: the bound on all rows, where no table has more than m
pub tables-length : (m : ℕ) (ended : List (List Row)) (rows : List Row) → length rows ≤ m → length ended * m + length rows ≤ length (tables_after ended rows) * m
tables-length m ended [] h = omega arith
tables-length m ended (row ∷ rows) h =
    let len = length-append ended ((row ∷ rows) ∷ []) in
    let one : length (tables_after ended (row ∷ rows)) ≡ length ended + 1 = omega (arith, len) in
    rw one (omega arith)

-- the next record's number is no longer than a word
pub line-fits : (line ended most rows tables : ℕ) → line ≤ 2 + ended * (most + 1) + rows → ended ≤ tables → tables < 2 ^ 8 → rows ≤ most + 1 → most < 2 ^ 16 → Fits w32 (line + 1)
line-fits line ended most rows tables h few tables_few short most_few =
    let e : ended ≤ 255 = omega arith in
    let m : most + 1 ≤ 65536 = omega arith in
    let p = mul-le-mul e m in
    omega (arith, p)

-- one more column
pub columns_from-push : (k n : ℕ) (rows : List Row) → columns_from k (n + 1) rows ≡ columns_from k n rows ++ numbers_of (k + n) rows ∷ []
columns_from-push k zero rows = let first : k + 0 ≡ k = omega arith in rw first refl
columns_from-push k (suc n) rows =
    let one : suc n + 1 ≡ suc (n + 1) = omega arith in
    let next : suc k + n ≡ k + suc n = omega arith in
    rw one (ap (λ cs. numbers_of k rows ∷ cs) (rw next at (columns_from-push (suc k) n rows)))
