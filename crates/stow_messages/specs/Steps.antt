-- The steps file: in which order the lifts of a movement instruction are done, with the changes of
-- tanks and the restows among them. It is a table of comma-separated values: a heading of four
-- fields, whose text is ignored, then a record for each step, `lift,N,,`, `tank,NAME,KG,` or
-- `restow,FROM,TO,ID`. Each lift occurs once. The first fault is the file's.
use Rattle.std.specs.Prelude.{◌≡◌, ◌≢◌, ℕ, zero, suc, ◌+◌, ℤ, pos, negsuc, List, [], ◌∷◌, ◌++◌}
use Rattle.std.specs.Prelude.{length, Option, Some, None, option_map, Result, Ok, Err, Bool, false}
use Rattle.std.specs.Prelude.{nat_le, nat_lt, ◌==◌, ◌&&◌, if◌then◌else◌, codes}
use Rattle.std.specs.List.{filter, list_any}
use Rattle.std.specs.Str.{bytes_eq}
use Rattle.arrayvec.specs.ArrayVec.{ArrayVec}
use Rattle.csv_text.specs.Numbers.{number_in}
use Rattle.csv_text.specs.Reading.{Fields, records_of}
use Rattle.units_core.specs.declared.cells.Cell.{Cell}
use Rattle.units_core.specs.Cells.{cell_in}
use Rattle.stow_messages.specs.declared.step_rows.StepRow.{StepRow}
use Rattle.stow_messages.specs.declared.step_rows.StepRow.TheVariants.{Lift, Tank, Restow}
use Rattle.stow_messages.specs.declared.step_faults.StepsFault.{StepsFault}
use Rattle.stow_messages.specs.declared.step_faults.StepsCode.{StepsCode}
use Rattle.stow_messages.specs.declared.step_faults.StepsCode.TheVariants.{BadCsv, BadKind}
use Rattle.stow_messages.specs.declared.step_faults.StepsCode.TheVariants.{BadField, NoLift}
use Rattle.stow_messages.specs.declared.step_faults.StepsCode.TheVariants.{LiftTwice, LiftMissing}
use Rattle.stow_messages.specs.declared.step_faults.StepsCode.TheVariants.{TooMany, NoMemory}
use Rattle.units_core.specs.Outcome.{◌>>=◌, or_fault}

-- a number from the lowest to the highest, a text whose length is within two limits
abbrev pub within : ℕ → ℕ → ℤ → Option ℕ
within low high (pos n) = if nat_le low n && nat_le n high then Some n else None
within low high (negsuc n) = None

abbrev pub text_of : ℕ → ℕ → List ℕ → Option (ArrayVec ℕ)
text_of least most text =
    if nat_le least (length text)
    && nat_le (length text) most then Some (record { items = text }) else None

-- `lift,N,,`: a number and nothing more; the numbers from 1 to that of the lifts name a lift
abbrev pub lift_number : List ℕ → List ℕ → List ℕ → Option ℤ
lift_number number [] [] = number_in number
lift_number number second third = None

abbrev pub lift_row : ℕ → Option ℤ → Result StepRow StepsCode
lift_row lifts number =
    or_fault BadField number >>= (λ n. or_fault NoLift (option_map Lift (within 1 lifts n)))

-- `tank,NAME,KG,`: a name of 1 to 16 bytes, a mass of 0 to 10^9 kg, and nothing more
abbrev pub mass_of : Option ℤ → Option ℕ
mass_of None = None
mass_of (Some n) = within 0 1000000000 n

abbrev pub tank_of : Option (ArrayVec ℕ) → Option ℕ → List ℕ → Option StepRow
tank_of (Some name) (Some kg) [] = Some (Tank name kg)
tank_of name kg third = None

-- `restow,FROM,TO,ID`: two cells, and an identification of at most 17 bytes
abbrev pub restow_of : Option Cell → Option Cell → Option (ArrayVec ℕ) → Option StepRow
restow_of (Some from) (Some to) (Some id) = Some (Restow from to id)
restow_of from to id = None

abbrev pub tank_row : List ℕ → List ℕ → List ℕ → Result StepRow StepsCode
tank_row first second third =
    or_fault BadField (tank_of (text_of 1 16 first) (mass_of (number_in second)) third)

abbrev pub restow_row : List ℕ → List ℕ → List ℕ → Result StepRow StepsCode
restow_row first second third =
    or_fault BadField (restow_of (cell_in first) (cell_in second) (text_of 0 17 third))

-- the row of a record of four fields, by its kind
abbrev pub row_by : ℕ → List ℕ → List ℕ → List ℕ → List ℕ → Result StepRow StepsCode
row_by lifts kind first second third =
    if bytes_eq kind (codes "lift") then lift_row lifts (lift_number first second third)
    else if bytes_eq kind (codes "tank") then tank_row first second third
    else if bytes_eq kind (codes "restow") then restow_row first second third
    else Err BadKind

abbrev pub row_of : ℕ → Fields → Result StepRow StepsCode
row_of lifts (kind ∷ first ∷ second ∷ third ∷ []) = row_by lifts kind first second third
row_of lifts fields = Err BadCsv

-- the row is lift n; lift n is among the rows; the row is a lift that is among the rows
abbrev pub is_lift : ℕ → StepRow → Bool
is_lift n (Lift m) = n == m
is_lift n row = false

abbrev pub stands : ℕ → List StepRow → Bool
stands n rows = list_any (is_lift n) rows

abbrev pub repeats : List StepRow → StepRow → Bool
repeats rows (Lift n) = stands n rows
repeats rows row = false

-- the rows with one more, and with that of one more record: a file has at most 200,000
abbrev pub with_row : List StepRow → StepRow → Result (List StepRow) StepsCode
with_row rows row = if repeats rows row then Err LiftTwice else Ok (rows ++ row ∷ [])

abbrev pub with_record : ℕ → List StepRow → Fields → Result (List StepRow) StepsCode
with_record lifts rows fields =
    if nat_lt (length rows) 200000 then row_of lifts fields >>= with_row rows else Err TooMany

-- A fault by its place, a record's number or a lift's. Out of memory has no place.
abbrev pub fault_at : StepsCode → ℕ → StepsFault
fault_at NoMemory at = record { code = NoMemory; at = 0 }
fault_at code at = record { code = code; at = at }

abbrev pub at_record : {A : Type 0} → ℕ → Result A StepsCode → Result A StepsFault
at_record line (Ok a) = Ok a
at_record line (Err code) = Err (fault_at code line)

-- the rows of records behind these rows: the heading is record 1, and each record gives a row
abbrev pub rows_from : ℕ → List StepRow → List Fields → Result (List StepRow) StepsFault
rows_from lifts rows [] = Ok rows
rows_from lifts rows (fields ∷ more) =
    at_record (length rows + 2) (with_record lifts rows fields)
    >>= (λ longer. rows_from lifts longer more)

abbrev pub rows_under : ℕ → List Fields → Result (List StepRow) StepsFault
rows_under lifts [] = Ok []
rows_under lifts (heading ∷ records) =
    if length heading == 4 then rows_from lifts [] records else Err (fault_at BadCsv 1)

-- the least lift that isn't among the rows: of a number of lifts from lift n on, and of all
abbrev pub missing_from : List StepRow → ℕ → ℕ → Option ℕ
missing_from rows n zero = None
missing_from rows n (suc more) = if stands n rows then missing_from rows (n + 1) more else Some n

abbrev pub unless_missing : Option ℕ → List StepRow → Result (List StepRow) StepsFault
unless_missing None rows = Ok rows
unless_missing (Some lift) rows = Err (fault_at LiftMissing lift)

abbrev pub complete : ℕ → List StepRow → Result (List StepRow) StepsFault
complete lifts rows = unless_missing (missing_from rows 1 lifts) rows

-- the rows of a steps file
abbrev pub steps_of : ℕ → List ℕ → Result (List StepRow) StepsFault
steps_of lifts text = rows_under lifts (records_of text) >>= complete lifts

-- The fault that is answered, where memory sufficed, is the one defined.
abbrev pub IsFaultOf : {A : Type 0} → Result A StepsFault → StepsFault → Type 0
IsFaultOf defined e = e.code ≢ NoMemory → defined ≡ Err e

-- In other words: of the rows, one is lift n for each n from 1 to the number of lifts, and none for
-- any other n.
abbrev pub EachLiftOnce : ℕ → List StepRow → Type 0
EachLiftOnce lifts rows = (n : ℕ)
    → length (filter (is_lift n) rows) ≡ (if nat_le 1 n && nat_le n lifts then 1 else 0)
