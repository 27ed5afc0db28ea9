-- Bookkeeping: what the code that reads a steps file keeps while it reads, as its own functions
-- hand it on. No definition of the format cites this.
use Rattle.std.specs.Prelude.{◌≡◌, ◌≢◌, ℕ, ◌+◌, ◌≤◌, List, length, Result, Err, Bool, false}
use Rattle.std.specs.Prelude.{slice_index_or, ⊤}
use Rattle.std.specs.Borrow.{Bor}
use Rattle.csv.specs.declared.reader.Reader.{Reader}
use Rattle.csv_text.specs.Reading.{Fields, HasLeft}
use Rattle.stow_messages.specs.declared.step_faults.StepsCode.{StepsCode}
use Rattle.stow_messages.specs.declared.step_faults.StepsCode.TheVariants.{NoMemory}
use Rattle.stow_messages.specs.declared.step_rows.StepRow.{StepRow}
use Rattle.stow_messages.specs.declared.step_rows.StepRow.TheVariants.{Lift}
use Rattle.stow_messages.specs.Steps.{stands}

-- one flag for each lift, which says whether the lift is among the rows
pub record AreFlags (lifts : ℕ) (rows : List StepRow) (flags : List Bool) : Type 0 where
  pub size : length flags ≡ lifts
  pub each : (i : ℕ) → slice_index_or flags i false ≡ stands (i + 1) rows

-- a row that is a lift is one of the lifts
abbrev pub IsWithin : ℕ → StepRow → Type 0
IsWithin lifts (Lift n) = (1 ≤ n) × (n ≤ lifts)
IsWithin lifts row = ⊤

-- what holds of the records that the reader has yet to give
abbrev pub OfRecordsLeft : Reader (Bor (List ℕ)) → (List Fields → Type 0) → Type 0
OfRecordsLeft reader P = (records : List Fields) → HasLeft reader records → P records

-- The cause that is answered, where memory sufficed, is the one defined.
abbrev pub IsCodeOf : {A : Type 0} → Result A StepsCode → StepsCode → Type 0
IsCodeOf defined e = e ≢ NoMemory → defined ≡ Err e
