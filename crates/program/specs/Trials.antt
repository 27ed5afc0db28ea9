-- The results of the lines of an edits file, tried one after another on a list of steps, and what
-- is printed of each.
use Rattle.std.specs.Prelude.{ℕ, ◌+◌, List, [], ◌∷◌, ◌++◌, take, codes, Option, None, Some}
use Rattle.std.specs.Fmt.{decimal}
use Rattle.lift_sequence.specs.declared.operations.Op.{Op}
use Rattle.step_edits.specs.declared.edits.Edit as edit
use Rattle.step_edits.specs.declared.faults.EditFault.{EditFault}
use Rattle.step_edits.specs.Edits.{edited}
use Rattle.step_edits.specs.Printed.{edit_code_text}
use Rattle.edits_file.specs.declared.forms.EditLine.{EditLine}
use Rattle.edits_file.specs.declared.forms.EditLine.TheVariants.{Edit, Undo}
use Rattle.seq_report.specs.Refusal.{Outcome}
use Rattle.port_call.specs.Grounds.{GroundRecord}
use Rattle.what_if.specs.Bases.{report_on}
use Rattle.what_if.specs.Sessions.{SessionRecord, refusal}
use Rattle.program.specs.declared.trials.Answer.{Answer}
use Rattle.program.specs.declared.trials.Answer.TheVariants.{Done, Refused, Nothing}

-- a list of steps as it is, and the earlier lists that an `undo` can take, newest first
pub record Lists : Type 0 where
  pub ops : List Op
  pub past : List (List Op)

abbrev pub lists_of : SessionRecord → Lists
lists_of session = record { ops = session.ops; past = session.past }

-- a list that nothing was tried on
abbrev pub untried : List Op → Lists
untried ops = record { ops = ops; past = [] }

-- An edit of the list, by why it is refused: a refused one changes nothing. The last 64 lists are
-- kept.
abbrev pub after_edit : Lists → edit.Edit → Option EditFault → Lists
after_edit lists edit None =
    record { ops = edited lists.ops edit; past = take 64 (lists.ops ∷ lists.past) }
after_edit lists edit (Some fault) = lists

-- the newest of the earlier lists, where there is one
abbrev pub taken_back : List Op → List (List Op) → Lists
taken_back ops [] = untried ops
taken_back ops (newest ∷ past) = record { ops = newest; past = past }

-- after a line, and after several, one after another
abbrev pub after_line : GroundRecord → Lists → EditLine → Lists
after_line base lists (Edit edit) = after_edit lists edit (refusal base lists.ops edit)
after_line base lists Undo = taken_back lists.ops lists.past

abbrev pub after_all : GroundRecord → Lists → List EditLine → Lists
after_all base lists [] = lists
after_all base lists (line ∷ lines) = after_all base (after_line base lists line) lines

-- what became of a line
abbrev pub edit_answer : Option EditFault → Answer
edit_answer None = Done
edit_answer (Some fault) = Refused fault

abbrev pub undo_answer : List (List Op) → Answer
undo_answer [] = Nothing
undo_answer (newest ∷ past) = Done

abbrev pub answer_of : GroundRecord → Lists → EditLine → Answer
answer_of base lists (Edit edit) = edit_answer (refusal base lists.ops edit)
answer_of base lists Undo = undo_answer lists.past

-- how that is printed
abbrev pub answer_text : Answer → List ℕ
answer_text Done = codes "OK"
answer_text (Refused fault) = edit_code_text fault
answer_text Nothing = codes "NONE"

abbrev pub answer_line : ℕ → Answer → List ℕ
answer_line number answer =
    codes "EDIT " ++ (decimal number ++ (codes " " ++ (answer_text answer ++ codes "\n")))

-- a line for each of these lines, of which the first has this number
abbrev pub answer_lines : GroundRecord → Lists → ℕ → List EditLine → List ℕ
answer_lines base lists number [] = []
answer_lines base lists number (line ∷ lines) =
    answer_line number (answer_of base lists line)
    ++ answer_lines base (after_line base lists line) (number + 1) lines

-- What is printed where these lines are tried on a list: an answer to each, and the report on the
-- list that is left.
abbrev pub outcome_after : GroundRecord → List Op → List EditLine → Outcome
outcome_after base ops lines = record {
  text = answer_lines base (untried ops) 1 lines
      ++ (report_on base (after_all base (untried ops) lines).ops).text;
  summary = (report_on base (after_all base (untried ops) lines).ops).summary;
}
