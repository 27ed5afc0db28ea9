-- What stopped a run, by the words of its command line, and what it had written.
use Rattle.std.proofs.Common.{◌≡◌, ◌≤◌, ℕ, List, [], Bool, true, false, Option, Err, inl, inr, refl, sym, subst, arith}
use Rattle.clap.specs.Words.{Text}
use Rattle.prefix_scan.specs.declared.divisions.CutFault.{CutFault}
use Rattle.port_call.specs.declared.faults.RunFault.{RunFault}
use Rattle.port_call.specs.declared.faults.RunFault.TheVariants as run
use Rattle.port_call.specs.declared.inputs.Inputs.{Inputs}
use Rattle.port_call.specs.Refusals.{is_refusal, is_write_fault}
use Rattle.seq_report.specs.Refusal.{outcome_of}
use Rattle.command_line.specs.declared.lines.Line.{Line}
use Rattle.command_line.specs.declared.lines.LineFault.{LineFault}
use Rattle.command_line.specs.declared.lines.LineFault.TheVariants as line
use Rattle.command_line.specs.declared.lines.Task.{Task}
use Rattle.run_files.specs.declared.stops.Stop.{Stop}
use Rattle.run_files.specs.declared.stops.Stop.TheVariants.{Refused, Edits, Usage, NoMemory, Read, Write}
use Rattle.run_files.specs.Files.{AreTexts, Known, RunTexts, edits_text, texts_in}
use Rattle.command_line.specs.Lines.{IsLine}
use Rattle.program.specs.Runs.{HasBadEdits, IsCutShort, IsLeft, IsLeftBy, IsLeftOf, IsRefusedBy, IsReported, IsRun, IsStopBy, IsStopOf, IsStopOn, IsUnwritten, OnFiles}
use Rattle.seq_report.specs.Written.{HasWritten}
use Rattle.seq_report.proofs.WrittenLemmas.{nothing}
use Rattle.run_files.specs.Statuses.{IsUnread, status_of, stop_of_line, stop_of_run}

module _ (task : Task) (inputs : Inputs) (edits : List ℕ) where
  -- a run without a report whose cuts have no fault
  pub of_run : (failed : Bool) (fault : RunFault) (stop : Stop) → stop ≡ stop_of_run fault → failed ≡ is_write_fault fault
      → (is_refusal fault ≡ true → outcome_of inputs ≡ Err fault) → ((f : CutFault) → fault ≡ run.Cuts f → ⊥) → IsStopOn task inputs edits failed stop
  of_run failed fault stop is known refused uncut = subst (IsStopOn task inputs edits failed) (sym is) (by fault known refused uncut) where
    by : (fault : RunFault) → failed ≡ is_write_fault fault → (is_refusal fault ≡ true → outcome_of inputs ≡ Err fault) → ((f : CutFault) → fault ≡ run.Cuts f → ⊥)
        → IsStopOn task inputs edits failed (stop_of_run fault)
    by (run.Profile f) known refused uncut = refused refl
    by (run.Baplie f) known refused uncut = refused refl
    by (run.Arrival f) known refused uncut = refused refl
    by (run.Movins f) known refused uncut = refused refl
    by (run.Steps f) known refused uncut = refused refl
    by (run.Sequence f) known refused uncut = refused refl
    by (run.Cuts f) known refused uncut = absurd (uncut f refl)
    by run.NoMemory known refused uncut = tt
    by (run.Write m) known refused uncut = known

  -- what such a run had written
  pub left_by_run : (old new : Option (List ℕ)) (fault : RunFault) (stop : Stop) → stop ≡ stop_of_run fault → (is_write_fault fault ≡ false → new ≡ old)
      → ((m : ℕ) → fault ≡ run.Write m → HasWritten old new (IsCutShort task inputs edits)) → HasWritten old new (IsLeft task inputs edits stop)
  left_by_run old new fault stop is untouched short = subst (λ (s : Stop). HasWritten old new (IsLeft task inputs edits s)) (sym is) (by fault untouched short) where
    none : (f : RunFault) → new ≡ old → HasWritten old new (IsLeft task inputs edits (Refused f))
    none f same = nothing old new (IsLeft task inputs edits (Refused f)) same refl

    by : (fault : RunFault) → (is_write_fault fault ≡ false → new ≡ old) → ((m : ℕ) → fault ≡ run.Write m → HasWritten old new (IsCutShort task inputs edits))
        → HasWritten old new (IsLeft task inputs edits (stop_of_run fault))
    by (run.Profile f) untouched short = none (run.Profile f) (untouched refl)
    by (run.Baplie f) untouched short = none (run.Baplie f) (untouched refl)
    by (run.Arrival f) untouched short = none (run.Arrival f) (untouched refl)
    by (run.Movins f) untouched short = none (run.Movins f) (untouched refl)
    by (run.Steps f) untouched short = none (run.Steps f) (untouched refl)
    by (run.Sequence f) untouched short = none (run.Sequence f) (untouched refl)
    by (run.Cuts f) untouched short = none (run.Cuts f) (untouched refl)
    by run.NoMemory untouched short = nothing old new (IsLeft task inputs edits NoMemory) (untouched refl) (inl refl)
    by (run.Write m) untouched short = short m refl

-- a claim about inputs and edits, as a claim about the files of a line
module _ (known : List ℕ → Known) (line : Line) (inputs : Inputs) (texts : RunTexts) (edits : List ℕ) (are : texts_in inputs texts.edits ≡ texts)
    (named : edits ≡ edits_text texts.edits) (read : AreTexts known line texts) where
  on_files : (holds : Inputs → List ℕ → Type 0) → holds inputs edits → OnFiles known line holds
  on_files holds h = (inputs, texts.edits, subst (AreTexts known line) (sym are) read, subst (holds inputs) named h)

  pub reported : (old new : Option (List ℕ)) (status : ℕ) → HasWritten old new (IsRun line.task inputs edits status) → HasWritten old new (IsReported known line status)
  reported old new status h = (h.0, on_files (λ i e. IsRun line.task i e status h.0) h.1, h.2)

  pub unreported : (failed : Bool) (stop : Stop) → IsStopOn line.task inputs edits failed stop → IsStopOf known line stop
  unreported failed (Refused fault) has = on_files (λ i e. outcome_of i ≡ Err fault) has
  unreported failed (Edits number) has = on_files (λ i e. HasBadEdits line.task i e number) has
  unreported failed (Usage text) has = absurd has
  unreported failed NoMemory has = tt
  unreported failed (Read name) has = absurd has
  unreported failed Write has = tt

  pub left_of_line : (old new : Option (List ℕ)) (stop : Stop) → HasWritten old new (IsLeft line.task inputs edits stop) → HasWritten old new (IsLeftOf known line stop)
  left_of_line old new stop h = (h.0, inr (on_files (λ i e. IsLeft line.task i e stop h.0) h.1), h.2)

-- a run that ends before anything is to be written: a file of it can't be read, or its words are no line
pub unread : (stop : Stop) → IsUnread stop → IsUnwritten stop []
unread (Refused fault) h = absurd h
unread (Edits number) h = absurd h
unread (Usage text) h = absurd h
unread NoMemory h = refl
unread (Read name) h = refl
unread Write h = absurd h

pub no_line : (fault : LineFault) (stop : Stop) → stop ≡ stop_of_line fault → IsUnwritten stop []
no_line fault stop is = subst (λ (s : Stop). IsUnwritten s []) (sym is) (by fault) where
  by : (fault : LineFault) → IsUnwritten (stop_of_line fault) []
  by (line.Usage text) = refl
  by line.NoMemory = refl

-- no run that is stopped has the status of a report
pub at_least : (stop : Stop) → 2 ≤ status_of stop
at_least (Refused fault) = omega arith
at_least (Edits number) = omega arith
at_least (Usage text) = omega arith
at_least NoMemory = omega arith
at_least (Read name) = omega arith
at_least Write = omega arith

module _ (known : List ℕ → Known) (words : List Text) where
  -- files of a line that have no report
  pub of_line : (line : Line) → IsLine words line → (stop : Stop) → IsStopOf known line stop → IsStopBy known words stop
  of_line line is (Refused fault) h = (line, is, h)
  of_line line is (Edits number) h = (line, is, h)
  of_line line is (Usage text) h = absurd h
  of_line line is NoMemory h = tt
  of_line line is (Read name) h = tt
  of_line line is Write h = tt

  pub left_by_line : (line : Line) → IsLine words line → (old new : Option (List ℕ)) (stop : Stop) → HasWritten old new (IsLeftOf known line stop)
      → HasWritten old new (IsLeftBy known words stop)
  left_by_line line is old new stop h = (h.0, inr (line, is, h.1), h.2)

  -- a status of 2 is a refusal, and one of 3 a usage error
  pub refusal : (stop : Stop) → status_of stop ≡ 2 → IsStopBy known words stop → IsRefusedBy known words
  refusal (Refused fault) e h = (h.0, h.1, inl (fault, h.2))
  refusal (Edits number) e h = (h.0, h.1, inr (number, h.2))
  refusal (Usage text) e h = absurd (omega arith)
  refusal NoMemory e h = absurd (omega arith)
  refusal (Read name) e h = absurd (omega arith)
  refusal Write e h = absurd (omega arith)
