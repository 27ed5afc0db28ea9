-- The result of a run, by the files that its command line names.
use Rattle.std.specs.Prelude.{◌≡◌, ◌⊎◌, ℕ, List, [], Bool, true, Option, Ok, Err}
use Rattle.clap.specs.Words.{Text}
use Rattle.edits_file.specs.declared.files.EditsFault.TheVariants.{Line as LineFault}
use Rattle.edits_file.specs.declared.forms.EditLine.{EditLine}
use Rattle.edits_file.specs.Reading.{edits_of}
use Rattle.lift_sequence.specs.declared.operations.Op.{Op}
use Rattle.port_call.specs.declared.faults.RunFault.{RunFault}
use Rattle.port_call.specs.declared.inputs.Inputs.{Inputs}
use Rattle.seq_report.specs.Refusal.{Outcome, outcome_of}
use Rattle.seq_report.specs.Report.{last_line}
use Rattle.seq_report.specs.Written.{HasWritten}
use Rattle.port_call.specs.Grounds.{GroundRecord}
use Rattle.what_if.specs.Sessions.{AreTold, SessionRecord}
use Rattle.command_line.specs.declared.lines.Line.{Line}
use Rattle.command_line.specs.declared.lines.Task.{Task}
use Rattle.command_line.specs.declared.lines.Task.TheVariants.{Check, First, WhatIf}
use Rattle.run_files.specs.declared.stops.Stop.{Stop}
use Rattle.run_files.specs.declared.stops.Stop.TheVariants.{Refused, Edits, Usage, NoMemory, Read}
use Rattle.run_files.specs.declared.stops.Stop.TheVariants.{Write}
use Rattle.run_files.specs.Files.{Known, AreTexts, edits_text, texts_in}
use Rattle.command_line.specs.Lines.{IsLine, IsNotTaken}
use Rattle.run_files.specs.Statuses.{status_of, status_on}
use Rattle.program.specs.Trials.{after_all, answer_lines, lists_of, outcome_after, untried}
use Rattle.program.specs.Written.{IsFrontOf}

-- the outcome of trying the edits of a text on the steps that inputs order
pub record AreTried (inputs : Inputs) (text : List ℕ) (outcome : Outcome) : Type 0 where
  pub base : GroundRecord
  pub ops : List Op
  pub lines : List EditLine
  pub told : AreTold inputs base ops
  pub read : edits_of text ≡ Ok lines
  pub outcome_is : outcome ≡ outcome_after base ops lines

-- the session in which the edits of a text were tried, and the answers to them
pub record AreTriedIn (inputs : Inputs) (text : List ℕ) (session : SessionRecord)
    (answers : List ℕ) : Type 0 where
  pub ops : List Op
  pub lines : List EditLine
  pub told : AreTold inputs session.base ops
  pub read : edits_of text ≡ Ok lines
  pub lists : lists_of session ≡ after_all session.base (untried ops) lines
  pub answers_are : answers ≡ answer_lines session.base (untried ops) 1 lines

-- the answers to them alone, with no report behind
pub record AreAnswers (inputs : Inputs) (text : List ℕ) (answers : List ℕ) : Type 0 where
  pub base : GroundRecord
  pub ops : List Op
  pub lines : List EditLine
  pub told : AreTold inputs base ops
  pub read : edits_of text ≡ Ok lines
  pub answers_are : answers ≡ answer_lines base (untried ops) 1 lines

-- what a run prints as a whole, and how the report in it ends
abbrev pub IsOutcome : Task → Inputs → List ℕ → Outcome → Type 0
IsOutcome Check inputs edits outcome = outcome_of inputs ≡ Ok outcome
IsOutcome First inputs edits outcome = outcome_of inputs ≡ Ok outcome
IsOutcome WhatIf inputs edits outcome = AreTried inputs edits outcome

-- what is printed of it: the whole, or the last line of the report alone
abbrev pub printed_by : Task → Outcome → List ℕ
printed_by Check outcome = outcome.text
printed_by First outcome = last_line outcome.summary.first
printed_by WhatIf outcome = outcome.text

-- the inputs, and the edits, have a report; this is the status of its first failing step, and this
-- is what is printed
abbrev pub IsRun : Task → Inputs → List ℕ → ℕ → List ℕ → Type 0
IsRun task inputs edits status text =
    (outcome : Outcome) × IsOutcome task inputs edits outcome
    × (status ≡ status_on outcome.summary.first) × (text ≡ printed_by task outcome)

-- they have a report, and this is the front of what is printed, and not the whole
abbrev pub IsCutShort : Task → Inputs → List ℕ → List ℕ → Type 0
IsCutShort task inputs edits text = (outcome : Outcome) × IsOutcome task inputs edits outcome
    × IsFrontOf (printed_by task outcome) text

-- What was written when a run was stopped: the front of what is printed where the sink failed;
-- nothing where memory ran out, or the answers to edits; and nothing otherwise.
abbrev pub IsLeft : Task → Inputs → List ℕ → Stop → List ℕ → Type 0
IsLeft task inputs edits Write text = IsCutShort task inputs edits text
IsLeft task inputs edits NoMemory text = (text ≡ [])
    ⊎ ((task ≡ WhatIf) × AreAnswers inputs edits text)
IsLeft task inputs edits stop text = text ≡ []

-- the inputs have a report, and the line of this number is the first of the edits that is of no
-- form
abbrev pub HasBadEdits : Task → Inputs → List ℕ → ℕ → Type 0
HasBadEdits task inputs edits number =
    (task ≡ WhatIf) × ((outcome : Outcome) × (outcome_of inputs ≡ Ok outcome))
    × (edits_of edits ≡ Err (LineFault number))

-- Why no report on the inputs was written, by whether the sink has failed: a refusal is one of the
-- inputs or of the edits, a fault of the sink is reported only where the sink has failed, and the
-- words of the command line are without fault here.
abbrev pub IsStopOn : Task → Inputs → List ℕ → Bool → Stop → Type 0
IsStopOn task inputs edits failed (Refused fault) = outcome_of inputs ≡ Err fault
IsStopOn task inputs edits failed (Edits number) = HasBadEdits task inputs edits number
IsStopOn task inputs edits failed (Usage text) = ⊥
IsStopOn task inputs edits failed NoMemory = Unit {0}
IsStopOn task inputs edits failed (Read name) = ⊥
IsStopOn task inputs edits failed Write = failed ≡ true

-- the files of a line are these inputs and these edits, of which this holds
abbrev pub OnFiles : (List ℕ → Known) → Line → (Inputs → List ℕ → Type 0) → Type 0
OnFiles known line holds =
    (inputs : Inputs) × (edits : Option (List ℕ)) × AreTexts known line (texts_in inputs edits)
    × holds inputs (edits_text edits)

-- the report on the files of a line has this status, and this is what is printed
abbrev pub IsReported : (List ℕ → Known) → Line → ℕ → List ℕ → Type 0
IsReported known line status text =
    OnFiles known line (λ inputs edits. IsRun line.task inputs edits status text)

-- nothing was written, since nothing was to be yet: so it isn't the sink that stopped the run
abbrev pub IsUnwritten : Stop → List ℕ → Type 0
IsUnwritten Write text = ⊥
IsUnwritten stop text = text ≡ []

-- what was written when the run on the files of a line was stopped: nothing, unless the files were
-- read
abbrev pub IsLeftOf : (List ℕ → Known) → Line → Stop → List ℕ → Type 0
IsLeftOf known line stop text =
    IsUnwritten stop text
    ⊎ OnFiles known line (λ inputs edits. IsLeft line.task inputs edits stop text)

-- the files of a line are refused for this, or for the line of this number in the file of edits
abbrev pub IsRefused : (List ℕ → Known) → Line → RunFault → Type 0
IsRefused known line fault = OnFiles known line (λ inputs edits. outcome_of inputs ≡ Err fault)

abbrev pub AreEditsRefused : (List ℕ → Known) → Line → ℕ → Type 0
AreEditsRefused known line number =
    OnFiles known line (λ inputs edits. HasBadEdits line.task inputs edits number)

-- why the files of a line have no report that was written
abbrev pub IsStopOf : (List ℕ → Known) → Line → Stop → Type 0
IsStopOf known line (Refused fault) = IsRefused known line fault
IsStopOf known line (Edits number) = AreEditsRefused known line number
IsStopOf known line (Usage text) = ⊥
IsStopOf known line stop = Unit {0}

-- what a run on the words of a whole command line reports: its exit status and its text
abbrev pub IsReportedBy : (List ℕ → Known) → List Text → ℕ → List ℕ → Type 0
IsReportedBy known words status text = (line : Line) × IsLine words line
    × IsReported known line status text

-- what was written when the run on them was stopped: nothing, unless they are a line
abbrev pub IsLeftBy : (List ℕ → Known) → List Text → Stop → List ℕ → Type 0
IsLeftBy known words stop text =
    IsUnwritten stop text ⊎ ((line : Line) × IsLine words line × IsLeftOf known line stop text)

abbrev pub IsRefusedBy : (List ℕ → Known) → List Text → Type 0
IsRefusedBy known words =
    (line : Line) × IsLine words line
    × (((fault : RunFault) × IsRefused known line fault)
    ⊎ ((number : ℕ) × AreEditsRefused known line number))

abbrev pub IsStopBy : (List ℕ → Known) → List Text → Stop → Type 0
IsStopBy known words (Usage text) = IsNotTaken words
IsStopBy known words (Refused fault) =
    (line : Line) × IsLine words line × IsRefused known line fault
IsStopBy known words (Edits number) =
    (line : Line) × IsLine words line × AreEditsRefused known line number
IsStopBy known words stop = Unit {0}

-- something stopped the run on them: it has this status, and what is held grew by what the run had
-- written
abbrev pub IsStoppedBy : (List ℕ → Known) → List Text → ℕ → Option (List ℕ) → Option (List ℕ)
    → Type 0
IsStoppedBy known words status old new =
    (stop : Stop) × (status_of stop ≡ status) × IsStopBy known words stop
    × HasWritten old new (IsLeftBy known words stop)
