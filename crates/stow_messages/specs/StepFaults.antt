-- A steps file with its rows, or the fault of a text that is none.
use Rattle.std.specs.Prelude.{◌≡◌, ◌≢◌, ◌⊎◌, ℕ, ◌+◌, ◌<◌, ◌≤◌, List, [], ◌∷◌, ◌++◌, map, length, Ok}
use Rattle.std.specs.Prelude.{Err, true, false}
use Rattle.std.specs.List.{filter}
use Rattle.csv_text.specs.Reading.{Fields, records_of}
use Rattle.stow_messages.specs.declared.step_rows.StepRow.{StepRow}
use Rattle.stow_messages.specs.declared.step_rows.StepRow.TheVariants.{Lift}
use Rattle.stow_messages.specs.declared.step_faults.StepsFault.{StepsFault}
use Rattle.stow_messages.specs.declared.step_faults.StepsCode.{StepsCode}
use Rattle.stow_messages.specs.declared.step_faults.StepsCode.TheVariants.{BadCsv, LiftTwice}
use Rattle.stow_messages.specs.declared.step_faults.StepsCode.TheVariants.{LiftMissing, TooMany}
use Rattle.stow_messages.specs.Steps.{row_of, is_lift, stands, EachLiftOnce}

-- The text has a heading of four fields and then these records, or it has neither heading nor
-- records.
abbrev pub AreUnderHeading : List ℕ → List Fields → Type 0
AreUnderHeading text records =
    ((heading : Fields) × (records_of text ≡ heading ∷ records) × (length heading ≡ 4))
    ⊎ ((records_of text ≡ []) × (records ≡ []))

-- Each record writes its row: as many rows as records, at most 200,000.
pub record AreRows (lifts : ℕ) (records : List Fields) (rows : List StepRow) : Type 0 where
  pub written : map (row_of lifts) records ≡ map Ok rows
  pub few : length rows ≤ 200000

-- no lift is in two rows
abbrev pub NoLiftTwice : List StepRow → Type 0
NoLiftTwice rows = (n : ℕ) → length (filter (is_lift n) rows) ≤ 1

-- The text is a steps file for this number of lifts, with these rows.
pub record AreSteps (lifts : ℕ) (text : List ℕ) (rows : List StepRow) : Type 0 where
  pub records : List Fields
  pub under : AreUnderHeading text records
  pub are_rows : AreRows lifts records rows
  pub once : EachLiftOnce lifts rows

-- the heading has other than four fields
pub record IsHeadingFault (text : List ℕ) (f : StepsFault) : Type 0 where
  pub heading : Fields
  pub records : List Fields
  pub records_are : records_of text ≡ heading ∷ records
  pub not_four : length heading ≢ 4
  pub fault_is : f ≡ record { code = BadCsv; at = 1 }

-- A record is refused behind these rows: it is one too many, or it writes no row, or its lift is
-- among them.
abbrev pub IsRefusedRecord : ℕ → List StepRow → Fields → StepsCode → Type 0
IsRefusedRecord lifts rows fields code =
    ((length rows ≡ 200000) × (code ≡ TooMany))
    ⊎ (((length rows < 200000) × (row_of lifts fields ≡ Err code))
    ⊎ ((n : ℕ) × (length rows < 200000) × (row_of lifts fields ≡ Ok (Lift n))
    × (stands n rows ≡ true) × (code ≡ LiftTwice)))

-- A record is refused, and none before it is refused. The heading is record 1.
pub record IsRecordFault (lifts : ℕ) (text : List ℕ) (f : StepsFault) : Type 0 where
  pub before : List Fields
  pub fields : Fields
  pub behind : List Fields
  pub rows : List StepRow
  pub under : AreUnderHeading text (before ++ fields ∷ behind)
  pub are_rows : AreRows lifts before rows
  pub none_twice : NoLiftTwice rows
  pub refused : IsRefusedRecord lifts rows fields f.code
  pub place_is : f.at ≡ length before + 2

-- No record is refused, and this is the least lift that is in none of the rows.
pub record IsMissing (lifts : ℕ) (text : List ℕ) (f : StepsFault) : Type 0 where
  pub records : List Fields
  pub rows : List StepRow
  pub under : AreUnderHeading text records
  pub are_rows : AreRows lifts records rows
  pub none_twice : NoLiftTwice rows
  pub code_is : f.code ≡ LiftMissing
  pub positive : 1 ≤ f.at
  pub within : f.at ≤ lifts
  pub missing : stands f.at rows ≡ false
  pub least : (n : ℕ) → 1 ≤ n → n < f.at → stands n rows ≡ true

-- The fault of a text that is no steps file for this number of lifts.
abbrev pub IsStepsFault : ℕ → List ℕ → StepsFault → Type 0
IsStepsFault lifts text f =
    IsHeadingFault text f ⊎ (IsRecordFault lifts text f ⊎ IsMissing lifts text f)
