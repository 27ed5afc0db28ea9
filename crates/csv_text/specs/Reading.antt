-- The records of a text, and those that a reader over it has yet to give, as `csv` defines them:
-- commas, double quotes, records that end by CR, LF or both, a byte order mark dropped. No record
-- is taken for a heading, and records may differ in length.
use Rattle.std.specs.Prelude.{◌≡◌, ℕ, Bool, true, false, List, [], ◌∷◌, Some}
use Rattle.std.specs.Borrow.{Bor}
use Rattle.csv.specs.declared.reader.Reader.{Reader}
use Rattle.csv.specs.declared.reader.Trim.TheVariants as trim
use Rattle.csv.specs.Reading.{default_config, reader_config, reader_trim, reader_state, Ready}
use Rattle.csv.specs.Reading.{source_of, AreRecords, records, strip_bom}

-- the fields of a record
abbrev pub Fields : Type 0
Fields = List (List ℕ)

-- every record of a text
abbrev pub records_of : List ℕ → List Fields
records_of text = records default_config (strip_bom text)

-- these are the records that the reader has yet to give
pub record HasLeft (r : Reader (Bor (List ℕ))) (rest : List Fields) : Type 0 where
  pub config : reader_config r ≡ default_config
  pub plain : reader_trim r ≡ trim.None
  pub ready : Ready r
  pub bytes : List ℕ
  pub source : source_of (λ s. Some s.now) r ≡ Some bytes
  pub records_are : AreRecords default_config (reader_state r) bytes rest

-- what a read that found a record, or none, says of those that were left
abbrev pub Gave : Bool → Fields → List Fields → Reader (Bor (List ℕ)) → Type 0
Gave false fields rest new = rest ≡ []
Gave true fields rest new = (more : List Fields) × (rest ≡ fields ∷ more) × HasLeft new more
