-- What was read of a file: each row is what the fields of its record are read as, within their columns' limits; and what the heading has and
-- each further row keeps, the whole file has. All that is shown of a file is shown by this one induction over its records.
use Rattle.std.proofs.Common.{◌≡◌, ◌∙◌, ℕ, ◌≤◌, ◌==◌, ◌&&◌, if◌then◌else◌, nat_le, Bool, true, false, ℤ, ◌≤ℤ◌, List, [], ◌∷◌, ◌++◌, length, zip, drop, append_assoc, Some, Result, Ok, Err, refl, ap, arith, None}
use Rattle.std.proofs.lemmas.Bool.{and_parts}
use Rattle.std.proofs.lemmas.Bool.Decides.{nat_tests}
use Rattle.std.proofs.lemmas.List.{append-nil}
use Rattle.std.specs.Bool.{⊤}
use Rattle.csv_text.specs.Numbers.{number_in}
use Rattle.csv_text.specs.Reading.{Fields, records_of}
use Rattle.units_core.proofs.OutcomeLemmas.{went_on, same_ok, was_there, no_fault, passed, within-limits}
use Rattle.units_core.specs.Cells.{cell_in}
use Rattle.units_core.specs.Outcome.{◌>>=◌, or_fault, unless, demand, within}
use Rattle.ship_tables.specs.declared.faults.File.{File}
use Rattle.ship_tables.specs.declared.faults.TableFault.{TableFault}
use Rattle.ship_tables.specs.declared.faults.TableFault.TheVariants.{BadCsv, BadNumber, OutOfLimits, TooFewRows}
use Rattle.ship_tables.specs.declared.layouts.Column.{Column}
use Rattle.ship_tables.specs.declared.layouts.Column.TheVariants as column
use Rattle.ship_tables.specs.declared.layouts.Field.{Field}
use Rattle.ship_tables.specs.declared.layouts.Field.TheVariants as field
use Rattle.ship_tables.specs.Outcome.{each, in_turn}
use Rattle.ship_tables.specs.Tables.{Form, Read, heading_read, Row, field_in, row_in, row_fault, with_row, added, is_short, enough, read_under, read_of, file_in}
use Rattle.ship_tables.specs.Written.{records_under}

-- the field is what its text is read as, and within the limits of its column
abbrev pub IsField : Column → List ℕ → Field → Type 0
IsField column.Cell text (field.Cell c) = cell_in text ≡ Some c
IsField column.Name text (field.Name n) = (n.items ≡ text) × (1 ≤ length n.items) × (length n.items ≤ 16)
IsField (column.Number low high) text (field.Number z) = (number_in text ≡ Some z) × (low ≤ℤ z) × (z ≤ℤ high)
IsField _ _ _ = ⊥

-- the fields of a row are what those of its record are read as, one for each column
abbrev pub AreFields : List Column → Fields → Row → Type 0
AreFields [] ts [] = ⊤
AreFields (c ∷ cs) (t ∷ ts) (f ∷ fs) = IsField c t f × AreFields cs ts fs
AreFields _ _ _ = ⊥

module _ (file : File) (line : ℕ) where
  cell-is : (text : List ℕ) (f : Field) → field_in file line column.Cell text ≡ Ok f → IsField column.Cell text f
  cell-is text f e =
      let read = went_on (or_fault (BadNumber file line) (cell_in text)) (λ c. Ok (field.Cell c)) f e in
      rw (← same_ok (field.Cell read.0) f read.2) (was_there (BadNumber file line) (cell_in text) read.0 read.1)

  name-is : (text : List ℕ) (f : Field) → field_in file line column.Name text ≡ Ok f → IsField column.Name text f
  name-is text f e =
      let p = passed (OutOfLimits file line) (nat_le 1 (length text) && nat_le (length text) 16) (field.Name (record { items = text })) f e in
      let parts = and_parts (nat_le 1 (length text)) (nat_le (length text) 16) p.0 in
      rw (← p.1) (refl, grind (arith, nat_tests, parts), grind (arith, nat_tests, parts))

  number-is : (low high : ℤ) (text : List ℕ) (f : Field) → field_in file line (column.Number low high) text ≡ Ok f → IsField (column.Number low high) text f
  number-is low high text f e =
      let read = went_on (or_fault (BadNumber file line) (number_in text)) (λ n. within (OutOfLimits file line) low high n >>= (λ z. Ok (field.Number z))) f e in
      let limits = went_on (within (OutOfLimits file line) low high read.0) (λ z. Ok (field.Number z)) f read.2 in
      let bounds = within-limits (OutOfLimits file line) low high read.0 limits.0 limits.1 in
      rw (← same_ok (field.Number limits.0) f limits.2) (was_there (BadNumber file line) (number_in text) read.0 read.1 ∙ ap Some bounds.0, bounds.1, bounds.2)

  field-is : (c : Column) (text : List ℕ) (f : Field) → field_in file line c text ≡ Ok f → IsField c text f
  field-is column.Cell text f e = cell-is text f e
  field-is column.Name text f e = name-is text f e
  field-is (column.Number low high) text f e = number-is low high text f e

  fields-are : (cs : List Column) (ts : Fields) (fs : Row) → length ts ≡ length cs → each (λ p. field_in file line p.0 p.1) (zip cs ts) ≡ Ok fs → AreFields cs ts fs
  fields-are [] ts [] h e = tt
  fields-are [] ts (f ∷ fs) h e = cc
  fields-are (c ∷ cs) [] fs h e = absurd (omega arith)
  fields-are (c ∷ cs) (t ∷ ts) fs h e =
      let first = went_on (field_in file line c t) (λ y. each (λ p. field_in file line p.0 p.1) (zip cs ts) >>= (λ ys. Ok (y ∷ ys))) fs e in
      let rest = went_on (each (λ p. field_in file line p.0 p.1) (zip cs ts)) (λ ys. Ok (first.0 ∷ ys)) fs first.2 in
      rw (← same_ok (first.0 ∷ rest.0) fs rest.2) (field-is c t first.0 first.1, fields-are cs ts rest.0 (omega arith) rest.1)

row-is : (form : Form) (line : ℕ) (texts : Fields) (row : Row) → row_in form line texts ≡ Ok row → AreFields form.columns texts row
row-is form line texts row e =
    let count : Bool = length texts == length form.columns in
    let full = went_on (demand (BadCsv form.file line) count texts) (λ ts. each (λ p. field_in form.file line p.0 p.1) (zip form.columns ts)) row e in
    let p = passed (BadCsv form.file line) count texts full.0 full.1 in
    let same : (length texts == length form.columns) ≡ true = p.0 in
    let read = rw (← p.1) at full.2 in
    fields-are form.file line form.columns texts row (grind (arith, nat_tests)) read

-- no table has too few rows
enough-is : (form : Form) (r all : Read) → enough form r ≡ Ok all → (is_short form.rule form.least r ≡ false) × (r ≡ all)
enough-is form r all e = go (is_short form.rule form.least r) refl e
  where
    go : (b : Bool) → is_short form.rule form.least r ≡ b → ◌≡◌ {A = Result Read TableFault} (if b then Err (TooFewRows form.file) else Ok r) (Ok all)
        → (is_short form.rule form.least r ≡ false) × (r ≡ all)
    go true t h = cc
    go false t h = (t, same_ok r all h)

module _ (form : Form) (P : List Fields → Read → Type 0) (first : P [] heading_read)
    (next : (records : List Fields) (before : Read) (texts : Fields) (row : Row) → P records before → AreFields form.columns texts row → row_fault form before row ≡ None
    → P (records ++ texts ∷ []) (with_row form.rule before row)) where
  added-keeps : (records : List Fields) (before after : Read) (texts : Fields) → P records before → added form before texts ≡ Ok after → P (records ++ texts ∷ []) after
  added-keeps records before after texts k e =
      let read = went_on (row_in form before.line texts) (λ row. unless (row_fault form before row) (with_row form.rule before row)) after e in
      let comes = no_fault (row_fault form before read.0) (with_row form.rule before read.0) after read.2 in
      rw (← comes.1) (next records before texts read.0 k (row-is form before.line texts read.0 read.1) comes.0)

  in_turn-keeps : (done : List Fields) (before after : Read) (records : List Fields) → P done before → in_turn (added form) before records ≡ Ok after → P (done ++ records) after
  in_turn-keeps done before after [] k e = rw (← same_ok before after e, append-nil done) k
  in_turn-keeps done before after (texts ∷ records) k e =
      let one = went_on (added form before texts) (λ more. in_turn (added form) more records) after e in
      rw (← append_assoc done (texts ∷ []) records) (in_turn-keeps (done ++ texts ∷ []) one.0 after records (added-keeps done before one.0 texts k one.1) one.2)

  kept_as : (given records : List Fields) (before after : Read) → records ≡ given → before ≡ after → P given before × (is_short form.rule form.least before ≡ false)
      → P records after × (is_short form.rule form.least after ≡ false)
  kept_as given records before after same same_read k = rw (← same_read, same) k

  read_of-keeps : (records : List Fields) (r : Read) → read_of form records ≡ Ok r → P (drop 1 records) r × (is_short form.rule form.least r ≡ false)
  read_of-keeps [] r e =
      let is = enough-is form heading_read r e in
      kept_as [] [] heading_read r refl is.1 (first, is.0)
  read_of-keeps (heading ∷ records) r e =
      let count : Bool = length heading == length form.columns in
      let headed = went_on (demand (BadCsv form.file 1) count records) (read_under form) r e in
      let same = (passed (BadCsv form.file 1) count records headed.0 headed.1).1 in
      let all = went_on (in_turn (added form) heading_read headed.0) (enough form) r headed.2 in
      let is = enough-is form all.0 r all.2 in
      kept_as headed.0 records all.0 r same is.1 (in_turn-keeps [] heading_read all.0 headed.0 first all.1, is.0)

  -- what the heading has and each further row keeps, what a text writes has; and no table of it has too few rows
  pub file-keeps : (text : List ℕ) (r : Read) → file_in form text ≡ Ok r → P (records_under text) r × (is_short form.rule form.least r ≡ false)
  file-keeps text r e = read_of-keeps (records_of text) r e
