-- How a view ends: by what was read of the inputs, and what was written.
use Rattle.std.proofs.Common.{◌≡◌, ◌≢◌, ◌≤◌, ℕ, true, List, ◌++◌, Option, None, Some, Err, inl, inr, refl, sym, subst, arith}
use Rattle.std.specs.Io.KnownBytes.{Appends}
use Rattle.std.proofs.KnownBytes.{Appends-trans}
use Rattle.criteria.specs.declared.criterion.Criterion.{Criterion}
use Rattle.port_call.specs.Cases.{CaseRecord}
use Rattle.seq_report.specs.Written.{HasWritten}
use Rattle.view_table.specs.declared.forms.Form.{Form}
use Rattle.view_table.specs.Tables.{IsPart}
use Rattle.prefix_scan.specs.declared.divisions.CutFault.{CutFault}
use Rattle.port_call.specs.declared.faults.InputFault.{InputFault}
use Rattle.port_call.specs.declared.faults.InputFault.TheVariants as input
use Rattle.port_call.specs.declared.faults.RunFault.{RunFault}
use Rattle.port_call.specs.declared.faults.RunFault.TheVariants as run
use Rattle.port_call.specs.declared.inputs.Inputs.{Inputs}
use Rattle.port_call.specs.Inputs.{case_of}
use Rattle.port_call.specs.Refusals.{is_refusal, run_fault}
use Rattle.seq_report.specs.declared.plans.CutPlan.TheVariants.{Every}
use Rattle.seq_report.specs.Refusal.{outcome_of}
use Rattle.seq_report.proofs.RunLemmas.{refused}
use Rattle.run_files.specs.declared.stops.Stop.{Stop}
use Rattle.run_files.specs.declared.stops.Stop.TheVariants.{Refused, Edits, Usage, NoMemory, Read, Write}
use Rattle.run_files.specs.Files.{AreShipTexts, AreTexts, Known, RunTexts, texts_in}
use Rattle.ship_profile.specs.Record as profile
use Rattle.command_line.specs.declared.lines.LineFault.{LineFault}
use Rattle.command_line.specs.declared.lines.LineFault.TheVariants as line
use Rattle.run_files.specs.Statuses.{IsUnread, status_of, status_on, stop_of_line, stop_of_run}
use Rattle.view_program.specs.declared.words.View.{View}
use Rattle.view_program.specs.declared.words.View.TheVariants.{Summary, Explain, Page, Table}
use Rattle.view_program.specs.declared.words.SessionLine.{SessionLine}
use Rattle.view_program.specs.declared.words.ViewLine.{ViewLine}
use Rattle.what_if.specs.Bases.{report_on}
use Rattle.view_program.specs.Sessions.{IsLeftOn}
use Rattle.view_program.specs.Answers.{IsAnswerBy, IsAnswerOf, IsAnswerOn, IsProfileAnswer, IsProfileAnswerOn, IsRefusalTold, IsRefusedBy, IsSessionOf, IsSessionOn, IsShownBy, IsUnrefused, IsUntouched, Taken}
use Rattle.view_program.specs.Shown.{IsShown, IsStopOn, IsTable, IsTextOf, OfTexts, OnFiles, files_of, first_in, report_lines}

-- inputs of which no port call was read
pub unread : (inputs : Inputs) (e : InputFault) (fault : RunFault) (stop : Stop) → fault ≡ run_fault e → stop ≡ stop_of_run fault → (e ≢ input.NoMemory → case_of inputs ≡ Err e)
    → IsStopOn inputs stop
unread inputs e fault stop of is read =
    let why = refused inputs (Every 1) e fault of read in
    subst (IsStopOn inputs) (sym is) (by fault why.refused why.uncut)
  where
    by : (fault : RunFault) → (is_refusal fault ≡ true → outcome_of inputs ≡ Err fault) → ((f : CutFault) → fault ≢ run.Cuts f) → IsStopOn inputs (stop_of_run fault)
    by (run.Profile f) told uncut = told refl
    by (run.Baplie f) told uncut = told refl
    by (run.Arrival f) told uncut = told refl
    by (run.Movins f) told uncut = told refl
    by (run.Steps f) told uncut = told refl
    by (run.Sequence f) told uncut = told refl
    by (run.Cuts f) told uncut = absurd (uncut f refl)
    by run.NoMemory told uncut = tt
    by (run.Write m) told uncut = tt

-- a stop that refuses no input, and one before which nothing was written
pub untouched_same : (stop : Stop) (taken : Taken) → IsUntouched stop taken taken
untouched_same (Refused fault) taken = refl
untouched_same (Edits number) taken = tt
untouched_same (Usage text) taken = tt
untouched_same NoMemory taken = tt
untouched_same (Read name) taken = tt
untouched_same Write taken = tt

pub untouched_write : (stop : Stop) (old new : Taken) → stop ≡ Write → IsUntouched stop old new
untouched_write stop old new is = subst (λ (s : Stop). IsUntouched s old new) (sym is) tt

pub unrefused_write : (stop : Stop) → stop ≡ Write → IsUnrefused stop
unrefused_write stop is = subst IsUnrefused (sym is) tt

pub unrefused_unread : (stop : Stop) → IsUnread stop → IsUnrefused stop
unrefused_unread (Refused fault) h = absurd h
unrefused_unread (Edits number) h = absurd h
unrefused_unread (Usage text) h = tt
unrefused_unread NoMemory h = tt
unrefused_unread (Read name) h = tt
unrefused_unread Write h = tt

pub unrefused_line : (fault : LineFault) (stop : Stop) → stop ≡ stop_of_line fault → IsUnrefused stop
unrefused_line fault stop is = subst IsUnrefused (sym is) (by fault) where
  by : (fault : LineFault) → IsUnrefused (stop_of_line fault)
  by (line.Usage text) = tt
  by line.NoMemory = tt

pub unrefused_other : (texts : RunTexts) (stop : Stop) → ((fault : RunFault) → stop ≢ Refused fault) → OfTexts texts (λ inputs. IsStopOn inputs stop) → IsUnrefused stop
unrefused_other texts (Refused fault) other h = absurd (other fault refl)
unrefused_other texts (Edits number) other h = absurd h.2
unrefused_other texts (Usage text) other h = tt
unrefused_other texts NoMemory other h = tt
unrefused_other texts (Read name) other h = tt
unrefused_other texts Write other h = tt

-- where an explanation wasn't asked for, nothing is written
pub told_beside : (view : View) (fault : RunFault) (taken : Taken) → view ≢ Explain → IsRefusalTold view fault taken taken
told_beside Summary fault taken other = refl
told_beside Explain fault taken other = absurd (other refl)
told_beside Page fault taken other = refl
told_beside Table fault taken other = refl

-- a refusal of some texts, of which nothing was written
pub told_on : (texts : RunTexts) (line : ViewLine) (status : ℕ) (fault : RunFault) (old mid new : Taken) → status ≡ 2
    → OfTexts texts (λ inputs. IsStopOn inputs (Refused fault)) → mid ≡ old → IsRefusalTold line.view fault mid new → IsAnswerOn texts line status old new
told_on texts line status fault old mid new two stopped same told =
    inr (two, fault, stopped, subst (λ (taken : Taken). IsRefusalTold line.view fault taken new) same told)

-- a claim about inputs, as a claim about the files of a line
module _ (known : List ℕ → Known) (line : ViewLine) (texts : RunTexts) (read : AreTexts known (files_of line) texts) where
  on_files : (holds : Inputs → Type 0) → OfTexts texts holds → OnFiles known line holds
  on_files holds h = (h.0, texts.edits, subst (AreTexts known (files_of line)) (sym h.1) read, h.2)

  pub on_answer : (status : ℕ) (old new : Taken) → IsAnswerOn texts line status old new → IsAnswerOf known line status old new
  on_answer status old new (inl h) = inl (h.0, on_files (λ inputs. IsShown (IsTextOf line) inputs status h.0) h.1, h.2)
  on_answer status old new (inr h) = inr (inl (h.0, h.1, on_files (λ inputs. outcome_of inputs ≡ Err h.1) h.2, h.3))

status_few : (first : Option (ℕ × Criterion)) → status_on first ≤ 1
status_few None = omega arith
status_few (Some failing) = omega arith

-- what is left of a session has the status of a report
pub left_few : (inputs : Inputs) (status : ℕ) (text : List ℕ) → IsLeftOn inputs status text → status ≤ 1
left_few inputs status text h = subst (λ (n : ℕ). n ≤ 1) (sym h.3.3) (status_few (report_on h.0 h.3.0.session.ops).summary.first)

-- a session on some texts, as one on the files of its line
pub on_session : (known : List ℕ → Known) (line : SessionLine) (texts : RunTexts) → AreTexts known (files_of line.call) texts
    → (status : ℕ) (old new : Taken) → IsSessionOn texts status old new → IsSessionOf known line status old new
on_session known line texts read status old new (inl h) = inl (h.0, on_files known line.call texts read (λ inputs. IsLeftOn inputs status h.0) h.1, h.2)
on_session known line texts read status old new (inr h) = inr (inl (h.0, h.1, on_files known line.call texts read (λ inputs. outcome_of inputs ≡ Err h.1) h.2, h.3))

-- no run that is stopped has the status of a report, or of a refusal
pub at_least : (stop : Stop) → 2 ≤ status_of stop
at_least (Refused fault) = omega arith
at_least (Edits number) = omega arith
at_least (Usage text) = omega arith
at_least NoMemory = omega arith
at_least (Read name) = omega arith
at_least Write = omega arith

pub not_refusal : (stop : Stop) → IsUnrefused stop → status_of stop ≡ 2 → ⊥
not_refusal (Refused fault) h two = h
not_refusal (Edits number) h two = h
not_refusal (Usage text) h two = omega arith
not_refusal NoMemory h two = omega arith
not_refusal (Read name) h two = omega arith
not_refusal Write h two = omega arith

-- what an answer is by its status
module _ (known : List ℕ → Known) (status : ℕ) (old new : Taken) where
  shown_line : status ≤ 1 → (line : ViewLine) → IsAnswerOf known line status old new → IsShownBy known status old new
  shown_line few line (inl h) = inl (line, h)
  shown_line few line (inr (inl h)) = absurd (omega (arith, few, h.0))
  shown_line few line (inr (inr five)) = absurd (omega (arith, few, five))

  shown_read : status ≤ 1 → (folder : List ℕ) (texts : profile.Texts) → AreShipTexts known folder texts → IsProfileAnswerOn texts status old new → IsShownBy known status old new
  shown_read few folder texts files (inl h) = inr (inl (folder, h.0, (texts, files, h.1, h.2)))
  shown_read few folder texts files (inr h) = absurd (omega (arith, few, h.0))

  shown_folder : status ≤ 1 → (folder : List ℕ) → IsProfileAnswer known folder status old new → IsShownBy known status old new
  shown_folder few folder (inl h) = shown_read few folder h.0 h.1 h.2
  shown_folder few folder (inr five) = absurd (omega (arith, few, five))

  shown_session : status ≤ 1 → (line : SessionLine) → IsSessionOf known line status old new → IsShownBy known status old new
  shown_session few line (inl h) = inr (inr (line, h))
  shown_session few line (inr (inl h)) = absurd (omega (arith, few, h.0))
  shown_session few line (inr (inr five)) = absurd (omega (arith, few, five))

  pub shown_by : status ≤ 1 → IsAnswerBy known status old new → IsShownBy known status old new
  shown_by few (inl h) = shown_line few h.0 h.1
  shown_by few (inr (inl h)) = shown_folder few h.0 h.1
  shown_by few (inr (inr h)) = shown_session few h.0 h.1

  refused_line : status ≡ 2 → (line : ViewLine) → IsAnswerOf known line status old new → IsRefusedBy known old new
  refused_line two line (inl h) = absurd (omega (arith, two, h.1.3.2, status_few (first_in h.1.3.0)))
  refused_line two line (inr (inl h)) = inl (line, h.1, h.2, h.3)
  refused_line two line (inr (inr five)) = absurd (omega (arith, two, five))

  refused_read : status ≡ 2 → (folder : List ℕ) (texts : profile.Texts) → AreShipTexts known folder texts → IsProfileAnswerOn texts status old new → IsRefusedBy known old new
  refused_read two folder texts files (inl h) = absurd (omega (arith, two, h.0))
  refused_read two folder texts files (inr h) = inr (inl (folder, (texts, files, h.1, h.2, h.3)))

  refused_folder : status ≡ 2 → (folder : List ℕ) → IsProfileAnswer known folder status old new → IsRefusedBy known old new
  refused_folder two folder (inl h) = refused_read two folder h.0 h.1 h.2
  refused_folder two folder (inr five) = absurd (omega (arith, two, five))

  refused_session : status ≡ 2 → (line : SessionLine) → IsSessionOf known line status old new → IsRefusedBy known old new
  refused_session two line (inl h) = absurd (omega (arith, two, left_few h.1.0 status h.0 h.1.3))
  refused_session two line (inr (inl h)) = inr (inr (line, h.1, h.2, h.3))
  refused_session two line (inr (inr five)) = absurd (omega (arith, two, five))

  pub refused_by : status ≡ 2 → IsAnswerBy known status old new → IsRefusedBy known old new
  refused_by two (inl h) = refused_line two h.0 h.1
  refused_by two (inr (inl h)) = refused_folder two h.0 h.1
  refused_by two (inr (inr h)) = refused_session two h.0 h.1

-- a table was written: its heading, its lines, and what stands behind them
pub table_written : (form : Form) (case : CaseRecord) (old mid late new : Option (List ℕ)) (heading end : List ℕ) (first : Option (ℕ × Criterion)) → Appends old mid heading
    → HasWritten mid late (λ text. IsPart form (report_lines case) text first) → Appends late new end → HasWritten old new (IsTable form case)
table_written form case old mid late new heading end first before lines behind =
    (heading ++ (lines.0 ++ end), (heading, lines.0, end, lines.1.lines_are, refl), Appends-trans old mid new heading (lines.0 ++ end) before (Appends-trans mid late new lines.0 end lines.2 behind))
