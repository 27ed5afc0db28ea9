-- The fields of a row, read one after another.
use Rattle.std.proofs.Common.{◌≡◌, ℕ, ◌+◌, ◌<◌, ◌==◌, true, arith, List, [], ◌∷◌, ◌++◌, length, drop, get_or, zip, Some, Result, Ok, Err}
use Rattle.std.proofs.lemmas.Bool.Decides.{nat_tests}
use Rattle.csv.specs.Records.{field_at}
use Rattle.ship_tables.specs.declared.faults.File.{File}
use Rattle.ship_tables.specs.declared.faults.TableFault.{TableFault}
use Rattle.ship_tables.specs.declared.layouts.Column.{Column}
use Rattle.ship_tables.specs.declared.layouts.Field.{Field}
use Rattle.ship_tables.specs.Outcome.{each}
use Rattle.ship_tables.specs.Tables.{Form, field_in, row_in}
use Rattle.ship_tables.proofs.OutcomeLemmas.{prepend, each-more, each-stop, zip-drop}

-- the fields from a place on
abbrev pub fields_from : File → ℕ → List Column → List (List ℕ) → ℕ → Result (List Field) TableFault
fields_from file line columns texts i = each (λ p. field_in file line p.0 p.1) (zip (drop i columns) (drop i texts))

module _ (file : File) (line : ℕ) (columns : List Column) (texts : List (List ℕ)) (i : ℕ) (d : Column) (t : List ℕ) (done : List Field) where
  -- the field of a column and its text
  abbrev one_field : Column × List ℕ → Result Field TableFault
  one_field p = field_in file line p.0 p.1

  -- one more field
  pub field-more : (f : Field) → i < length columns → field_at texts i ≡ Some t → field_in file line (get_or columns i d) t ≡ Ok f
      → prepend done (fields_from file line columns texts i) ≡ prepend (done ++ f ∷ []) (fields_from file line columns texts (i + 1))
  field-more f h at one = rw (zip-drop columns texts i d t h at) (each-more one_field (get_or columns i d, t) (zip (drop (i + 1) columns) (drop (i + 1) texts)) done f one)

  -- the first fault
  pub field-stop : (e : TableFault) → i < length columns → field_at texts i ≡ Some t → field_in file line (get_or columns i d) t ≡ Err e
      → prepend done (fields_from file line columns texts i) ≡ Err e
  field-stop e h at one = rw (zip-drop columns texts i d t h at) (each-stop one_field (get_or columns i d, t) (zip (drop (i + 1) columns) (drop (i + 1) texts)) done e one)

-- a record of a field for each column is read field by field
pub row-full : (form : Form) (line : ℕ) (texts : List (List ℕ)) (r : Result (List Field) TableFault) → length texts ≡ length form.columns
    → each (λ p. field_in form.file line p.0 p.1) (zip form.columns texts) ≡ r → row_in form line texts ≡ r
row-full form line texts r h e = let same : (length texts == length form.columns) ≡ true = grind (arith, nat_tests) in rw same e
