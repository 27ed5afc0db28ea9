-- The report: a heading, a line for each step, and the first of them that fails.
use Rattle.std.specs.Prelude.{ℕ, zero, suc, ℤ, List, [], ◌∷◌, ◌++◌, length, map, flat_map}
use Rattle.std.specs.Prelude.{slice_get, codes, Option, Some, None, option_map}
use Rattle.std.specs.List.{range_with_len}
use Rattle.std.specs.Fmt.{decimal, signed_decimal}
use Rattle.std.specs.Option.{option_or}
use Rattle.ship_profile.specs.Record.{ProfileRecord}
use Rattle.lift_sequence.specs.declared.operations.Op.{Op}
use Rattle.lift_sequence.specs.Aboard.{Aboard}
use Rattle.moment_sums.specs.Sum as sums
use Rattle.moment_sums.specs.Sum.{Weight}
use Rattle.port_call.specs.Sums.{sum_at}
use Rattle.hydrostat.specs.declared.outside.Outside as causes
use Rattle.hydrostat.specs.declared.outside.Outside.TheVariants.{Hydro, Levers, Bonjean, Closing}
use Rattle.hydrostat.specs.declared.outside.Outside.TheVariants.{GmLimit}
use Rattle.criteria.specs.declared.criterion.Criterion.{Criterion}
use Rattle.criteria.specs.declared.criterion.Criterion.TheVariants.{C0}
use Rattle.criteria.specs.Criteria.{code_of}
use Rattle.criteria.specs.Judgement.{Judgement, IsOutside, Fails, Passes, judgement_of}
use Rattle.criteria.specs.Judgement.{judgement_by}
use Rattle.seq_report.specs.declared.step_lines.StepLine.{StepLine}
use Rattle.seq_report.specs.Columns.{figures_text, headings_text}
use Rattle.seq_report.specs.Lifts.{lift_text}

abbrev pub judged_headings : List ℕ
judged_headings = headings_text ++ codes " FRAMES VERDICT\n"

abbrev pub header_of : List ℕ
header_of = codes "STEP LIFT KG" ++ judged_headings

-- the word for what lies outside of the tables
abbrev pub cause_of : causes.Outside → List ℕ
cause_of Hydro = codes "HYDRO"
cause_of Levers = codes "LEVERS"
cause_of Bonjean = codes "BONJEAN"
cause_of Closing = codes "CLOSING"
cause_of GmLimit = codes "GMLIMIT"

-- what is said of a step: its number, the displacement, of how many frames, and how it is judged
pub record Statement : Type 0 where
  pub step : ℕ
  pub kg : ℤ
  pub frames : ℕ
  pub judgement : Judgement

abbrev pub statement_of : StepLine → Statement
statement_of l =
    record {
      step = l.step;
      kg = l.kg;
      frames = l.frames;
      judgement = judgement_by l.judged l.figures;
    }

-- the figures of a line, and the verdict; or the word OUTSIDE and the cause
abbrev pub verdict_text : ℕ → Judgement → List ℕ
verdict_text frames (IsOutside outside) = codes " OUTSIDE " ++ cause_of outside
verdict_text frames (Fails criterion f) =
    figures_text frames f ++ (codes " FAIL " ++ code_of criterion)
verdict_text frames (Passes f) = figures_text frames f ++ codes " PASS"

-- the number of the step, what leads to it, the displacement, and how it is judged
abbrev pub judged_text : Statement → List ℕ
judged_text l =
    codes " " ++ (signed_decimal l.kg ++ (verdict_text l.frames l.judgement ++ codes "\n"))

abbrev pub line_of : Option Op → Statement → List ℕ
line_of lift l = decimal l.step ++ (codes " " ++ (lift_text lift ++ judged_text l))

-- the first criterion that a step fails, which is C0 outside of the tables
abbrev pub first_failed : Judgement → Option Criterion
first_failed (IsOutside outside) = Some C0
first_failed (Fails criterion f) = Some criterion
first_failed (Passes f) = None

-- the step that a line fails, with the criterion
abbrev pub failure_of : Statement → Option (ℕ × Criterion)
failure_of l = option_map (λ criterion. (l.step, criterion)) (first_failed l.judgement)

-- a line of a report: what the step orders (nothing on arrival), and what is said of it
pub record Line : Type 0 where
  pub lift : Option Op
  pub step : Statement

abbrev pub text_of : Line → List ℕ
text_of line = line_of line.lift line.step

-- the first of the lines that fails
abbrev pub first_of : List Line → Option (ℕ × Criterion)
first_of [] = None
first_of (line ∷ more) = option_or (failure_of line.step) (first_of more)

-- what is said of a step at which everything aboard adds up to this
abbrev pub step_line : ProfileRecord → ℕ → sums.Sum → Statement
step_line ship step s =
    record {
      step = step;
      kg = s Weight;
      frames = length ship.ship.frames;
      judgement = judgement_of ship s;
    }

-- what leads to a line: nothing to the condition on arrival, line 0, and step k to line k
abbrev pub lift_to : List Op → ℕ → Option Op
lift_to ops zero = None
lift_to ops (suc k) = slice_get ops k

-- line k, with this aboard on arrival
abbrev pub line_at : ProfileRecord → Aboard → List Op → ℕ → Line
line_at ship arrival ops k =
    record { lift = lift_to ops k; step = step_line ship k (sum_at ship arrival ops k) }

-- the lines of a run, from that of the condition on arrival to that of the last step
abbrev pub lines_of : ProfileRecord → Aboard → List Op → List Line
lines_of ship arrival ops = map (line_at ship arrival ops) (range_with_len 0 (suc (length ops)))

-- the last line
abbrev pub last_line : Option (ℕ × Criterion) → List ℕ
last_line None = codes "ALL PASS\n"
last_line (Some (step, criterion)) =
    codes "FIRST FAIL " ++ (decimal step ++ (codes " " ++ (code_of criterion ++ codes "\n")))

abbrev pub report_of : List Line → List ℕ
report_of lines = header_of ++ (flat_map text_of lines ++ last_line (first_of lines))
