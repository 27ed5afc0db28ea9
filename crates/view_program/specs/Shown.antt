-- What a view prints, and its exit status, by the report on the same inputs.
use Rattle.std.specs.Prelude.{◌≡◌, ℕ, List, ◌++◌, Option, None, Some, Ok, Err, codes}
use Rattle.criteria.specs.declared.criterion.Criterion.{Criterion}
use Rattle.port_call.specs.Cases.{CaseRecord, aboard_first}
use Rattle.port_call.specs.declared.faults.RunFault.{RunFault}
use Rattle.port_call.specs.declared.inputs.Inputs.{Inputs}
use Rattle.seq_report.specs.Cases.{outcome_in}
use Rattle.seq_report.specs.Refusal.{outcome_of}
use Rattle.seq_report.specs.Report.{Line as ReportLine, last_line, lines_of}
use Rattle.command_line.specs.declared.lines.Line.{Line}
use Rattle.command_line.specs.declared.lines.Task.TheVariants.{Check}
use Rattle.run_files.specs.declared.stops.Stop.{Stop}
use Rattle.run_files.specs.declared.stops.Stop.TheVariants.{Refused, Edits, Usage, NoMemory, Read}
use Rattle.run_files.specs.declared.stops.Stop.TheVariants.{Write}
use Rattle.run_files.specs.Files.{AreTexts, Known, RunTexts, texts_in}
use Rattle.run_files.specs.Statuses.{status_on}
use Rattle.view_table.specs.declared.forms.Form.{Form}
use Rattle.view_table.specs.Tables.{AreLines}
use Rattle.view_program.specs.declared.words.View.TheVariants.{Summary, Explain, Page, Table}
use Rattle.view_program.specs.declared.words.View.{View}
use Rattle.view_program.specs.declared.words.ViewLine.{ViewLine}

-- the first line of a case's report that fails, and all of its lines
abbrev pub first_in : CaseRecord → Option (ℕ × Criterion)
first_in case = (outcome_in case).summary.first

abbrev pub report_lines : CaseRecord → List ReportLine
report_lines case = lines_of case.profile (aboard_first case) case.sequence.ops

-- a summary ends with the last line of the report
abbrev pub IsSummary : CaseRecord → List ℕ → Type 0
IsSummary case text = (front : List ℕ) × (text ≡ front ++ last_line (first_in case))

-- an explanation begins with it, unless it is the sheet of one condition
abbrev pub IsExplanation : Option ℕ → CaseRecord → List ℕ → Type 0
IsExplanation None case text = (behind : List ℕ) × (text ≡ last_line (first_in case) ++ behind)
IsExplanation (Some step) case text = Unit {0}

-- of a page nothing is said but its exit status
abbrev pub IsPage : CaseRecord → List ℕ → Type 0
IsPage case text = Unit {0}

-- a table has a line for each line of the report
abbrev pub IsTable : Form → CaseRecord → List ℕ → Type 0
IsTable form case text =
    (heading : List ℕ) × (lines : List ℕ) × (end : List ℕ)
    × AreLines form (report_lines case) lines × (text ≡ heading ++ (lines ++ end))

abbrev pub IsTextBy : View → Option ℕ → Form → CaseRecord → List ℕ → Type 0
IsTextBy Summary condition form = IsSummary
IsTextBy Explain condition form = IsExplanation condition
IsTextBy Page condition form = IsPage
IsTextBy Table condition form = IsTable form

abbrev pub IsTextOf : ViewLine → CaseRecord → List ℕ → Type 0
IsTextOf line = IsTextBy line.view line.condition line.form

-- the inputs have a report, of whose case this holds, and the status is that of the report
abbrev pub IsShown : (CaseRecord → List ℕ → Type 0) → Inputs → ℕ → List ℕ → Type 0
IsShown holds inputs status text =
    (case : CaseRecord) × (outcome_of inputs ≡ Ok (outcome_in case))
    × (status ≡ status_on (first_in case)) × holds case text

-- Why nothing is shown of inputs, or not all: a refusal is that of the report. The words may ask
-- for a condition that there isn't.
abbrev pub IsStopOn : Inputs → Stop → Type 0
IsStopOn inputs (Refused fault) = outcome_of inputs ≡ Err fault
IsStopOn inputs (Edits number) = ⊥
IsStopOn inputs (Usage text) = Unit {0}
IsStopOn inputs NoMemory = Unit {0}
IsStopOn inputs (Read name) = ⊥
IsStopOn inputs Write = Unit {0}

-- some inputs are these texts, and this holds of them
abbrev pub OfTexts : RunTexts → (Inputs → Type 0) → Type 0
OfTexts texts holds = (inputs : Inputs) × (texts_in inputs texts.edits ≡ texts) × holds inputs

-- the files that a line names
abbrev pub files_of : ViewLine → Line
files_of line = record {
  task = Check;
  folder = line.folder;
  baplie = line.baplie;
  movins = line.movins;
  edits = None;
  steps = line.steps;
  workers = line.workers;
  chunk = line.chunk;
}

-- their texts are these inputs', of which this holds
abbrev pub OnFiles : (List ℕ → Known) → ViewLine → (Inputs → Type 0) → Type 0
OnFiles known line holds = (inputs : Inputs) × (edits : Option (List ℕ))
    × AreTexts known (files_of line) (texts_in inputs edits) × holds inputs
