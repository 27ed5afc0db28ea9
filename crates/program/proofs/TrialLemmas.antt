-- Edits that are tried in a session, and what stops them.
use Rattle.std.proofs.Common.{◌≡◌, ◌≢◌, ℕ, ◌<◌, List, [], ◌++◌, length, take, true, false, Bool, Option, Ok, Err, inr, refl, sym, ap, ◌∙◌, subst}
use Rattle.std.proofs.KnownBytes.{Appends-trans}
use Rattle.std.proofs.lemmas.Bool.{true≢false}
use Rattle.std.specs.Io.KnownBytes.{Appends}
use Rattle.prefix_scan.specs.declared.divisions.CutFault.{CutFault}
use Rattle.edits_file.specs.declared.files.EditsFault.{EditsFault}
use Rattle.edits_file.specs.declared.files.EditsFault.TheVariants as file
use Rattle.edits_file.specs.declared.forms.EditLine.{EditLine}
use Rattle.edits_file.specs.Reading.{edits_of}
use Rattle.lift_sequence.specs.declared.operations.Op.{Op}
use Rattle.port_call.specs.declared.faults.RunFault.{RunFault}
use Rattle.port_call.specs.declared.faults.RunFault.TheVariants as run
use Rattle.port_call.specs.declared.inputs.Inputs.{Inputs}
use Rattle.port_call.specs.Refusals.{is_refusal, is_write_fault}
use Rattle.seq_report.specs.declared.complete.Summary.{Summary}
use Rattle.seq_report.specs.Refusal.{Outcome, outcome_of}
use Rattle.port_call.specs.Grounds.{GroundRecord}
use Rattle.what_if.specs.Bases.{report_on}
use Rattle.what_if.specs.Sessions.{AreTold, SessionRecord}
use Rattle.command_line.specs.declared.lines.Task.TheVariants.{WhatIf}
use Rattle.run_files.specs.declared.stops.Stop.{Stop}
use Rattle.program.specs.Runs.{AreAnswers, AreTried, AreTriedIn, IsCutShort, IsLeft, IsRun, IsStopOn}
use Rattle.seq_report.specs.Written.{HasWritten}
use Rattle.program.proofs.WrittenLemmas.{in_first, in_rest}
use Rattle.run_files.specs.Statuses.{status_on, stop_of_edits, stop_of_run}
use Rattle.program.specs.Trials.{Lists, after_all, answer_lines, lists_of, outcome_after, untried}

abbrev is_no_memory : RunFault → Bool
is_no_memory run.NoMemory = true
is_no_memory fault = false

module _ (inputs : Inputs) (edits : List ℕ) where
  -- inputs of which no session can be made
  pub of_read : (fault : RunFault) (stop : Stop) → stop ≡ stop_of_run fault → is_write_fault fault ≡ false → (fault ≢ run.NoMemory → outcome_of inputs ≡ Err fault)
      → IsStopOn WhatIf inputs edits false stop
  of_read fault stop is silent refused = subst (IsStopOn WhatIf inputs edits false) (sym is) (by fault silent refused) where
    other : (fault : RunFault) → is_no_memory fault ≡ false → fault ≢ run.NoMemory
    other fault differs is = true≢false (sym (ap is_no_memory is) ∙ differs)

    by : (fault : RunFault) → is_write_fault fault ≡ false → (fault ≢ run.NoMemory → outcome_of inputs ≡ Err fault) → IsStopOn WhatIf inputs edits false (stop_of_run fault)
    by (run.Profile f) silent refused = refused (other (run.Profile f) refl)
    by (run.Baplie f) silent refused = refused (other (run.Baplie f) refl)
    by (run.Arrival f) silent refused = refused (other (run.Arrival f) refl)
    by (run.Movins f) silent refused = refused (other (run.Movins f) refl)
    by (run.Steps f) silent refused = refused (other (run.Steps f) refl)
    by (run.Sequence f) silent refused = refused (other (run.Sequence f) refl)
    by (run.Cuts f) silent refused = refused (other (run.Cuts f) refl)
    by run.NoMemory silent refused = tt
    by (run.Write m) silent refused = absurd (true≢false silent)

  -- edits of which a line is of no form, where the inputs have a report
  pub of_edits : (outcome : Outcome) → outcome_of inputs ≡ Ok outcome → (fault : EditsFault) (stop : Stop) → stop ≡ stop_of_edits fault
      → edits_of edits ≡ Err fault → IsStopOn WhatIf inputs edits false stop
  of_edits outcome has (file.Line number) stop is refused = subst (IsStopOn WhatIf inputs edits false) (sym is) (refl, (outcome, has), refused)

  -- lines that were tried in a session that nothing was tried in before
  pub tried_in : (before after : SessionRecord) (lines : List EditLine) (answers : List ℕ) → AreTold inputs before.base before.ops → before.past ≡ [] → edits_of edits ≡ Ok lines
      → after.base ≡ before.base → lists_of after ≡ after_all before.base (lists_of before) lines → answers ≡ answer_lines before.base (lists_of before) 1 lines
      → AreTriedIn inputs edits after answers
  tried_in before after lines answers told fresh read base lists text =
      let start : lists_of before ≡ untried before.ops = ap (λ (past : List (List Op)). record { ops = before.ops; past = past }) fresh in
      record {
        ops = before.ops;
        lines = lines;
        told = subst (λ (b : GroundRecord). AreTold inputs b before.ops) (sym base) told;
        read = read;
        lists = lists ∙ ap (λ (l : Lists). after_all before.base l lines) start ∙ ap (λ (b : GroundRecord). after_all b (untried before.ops) lines) (sym base);
        answers_are = text ∙ ap (λ (l : Lists). answer_lines before.base l 1 lines) start ∙ ap (λ (b : GroundRecord). answer_lines b (untried before.ops) 1 lines) (sym base);
      }

  -- what is printed of a session in which edits were tried: the answers, and its report
  module _ (session : SessionRecord) (answers : List ℕ) (tried : AreTriedIn inputs edits session answers) where
    abbrev pub trial_outcome : Outcome
    trial_outcome = outcome_after session.base tried.ops tried.lines

    pub are_tried : AreTried inputs edits trial_outcome
    are_tried = record { base = session.base; ops = tried.ops; lines = tried.lines; told = tried.told; read = tried.read; outcome_is = refl }

    left : report_on session.base session.ops ≡ report_on session.base (after_all session.base (untried tried.ops) tried.lines).ops
    left = ap (λ (lists : Lists). report_on session.base lists.ops) tried.lists

    pub text_is : answers ++ (report_on session.base session.ops).text ≡ trial_outcome.text
    text_is =
        ap (λ (text : List ℕ). text ++ (report_on session.base session.ops).text) tried.answers_are
        ∙ ap (λ (o : Outcome). answer_lines session.base (untried tried.ops) 1 tried.lines ++ o.text) left

    pub summary_is : (report_on session.base session.ops).summary ≡ trial_outcome.summary
    summary_is = ap (λ (o : Outcome). o.summary) left

    are_answers : AreAnswers inputs edits answers
    are_answers = record { base = session.base; ops = tried.ops; lines = tried.lines; told = tried.told; read = tried.read; answers_are = tried.answers_are }

    -- the answers and then the report, as what is printed
    pub whole : (old middle new : Option (List ℕ)) (status : ℕ) (summary : Summary) → summary ≡ (report_on session.base session.ops).summary → status ≡ status_on summary.first
        → Appends old middle answers → Appends middle new (report_on session.base session.ops).text → HasWritten old new (IsRun WhatIf inputs edits status)
    whole old middle new status summary is has put more = (
      trial_outcome.text,
      (trial_outcome, are_tried, has ∙ ap (λ (s : Summary). status_on s.first) (is ∙ summary_is), refl),
      subst (Appends old new) text_is (Appends-trans old middle new answers (report_on session.base session.ops).text put more),
    )

    -- what the sink had taken where it failed in the answers, and what was written where the report behind them was stopped
    pub cut_in_answers : (old new : Option (List ℕ)) (m : ℕ) → m < length answers → Appends old new (take m answers) → HasWritten old new (IsCutShort WhatIf inputs edits)
    cut_in_answers old new m short put =
        (take m answers, (trial_outcome, are_tried, in_first answers (report_on session.base session.ops).text trial_outcome.text text_is m short), put)

    pub left_behind : (old middle new : Option (List ℕ)) (fault : RunFault) (why : Stop) → why ≡ stop_of_run fault → is_refusal fault ≡ false
        → ((f : CutFault) → fault ≡ run.Cuts f → ⊥) → Appends old middle answers → (is_write_fault fault ≡ false → new ≡ middle)
        → ((m : ℕ) → fault ≡ run.Write m → (m < length (report_on session.base session.ops).text) × Appends middle new (take m (report_on session.base session.ops).text))
        → HasWritten old new (IsLeft WhatIf inputs edits why)
    left_behind old middle new fault why is unrefused uncut put untouched short =
        subst (λ (s : Stop). HasWritten old new (IsLeft WhatIf inputs edits s)) (sym is) (by fault unrefused uncut untouched short) where
          by : (fault : RunFault) → is_refusal fault ≡ false → ((f : CutFault) → fault ≡ run.Cuts f → ⊥) → (is_write_fault fault ≡ false → new ≡ middle)
              → ((m : ℕ) → fault ≡ run.Write m → (m < length (report_on session.base session.ops).text) × Appends middle new (take m (report_on session.base session.ops).text))
              → HasWritten old new (IsLeft WhatIf inputs edits (stop_of_run fault))
          by (run.Profile f) unrefused uncut untouched short = absurd (true≢false unrefused)
          by (run.Baplie f) unrefused uncut untouched short = absurd (true≢false unrefused)
          by (run.Arrival f) unrefused uncut untouched short = absurd (true≢false unrefused)
          by (run.Movins f) unrefused uncut untouched short = absurd (true≢false unrefused)
          by (run.Steps f) unrefused uncut untouched short = absurd (true≢false unrefused)
          by (run.Sequence f) unrefused uncut untouched short = absurd (true≢false unrefused)
          by (run.Cuts f) unrefused uncut untouched short = absurd (uncut f refl)
          by run.NoMemory unrefused uncut untouched short =
              (answers, inr (refl, are_answers), subst (λ (held : Option (List ℕ)). Appends old held answers) (sym (untouched refl)) put)
          by (run.Write m) unrefused uncut untouched short =
              let cut = short m refl in (
                answers ++ take m (report_on session.base session.ops).text,
                (trial_outcome, are_tried, in_rest answers (report_on session.base session.ops).text trial_outcome.text text_is m cut.0),
                Appends-trans old middle new answers (take m (report_on session.base session.ops).text) put cut.1,
              )
