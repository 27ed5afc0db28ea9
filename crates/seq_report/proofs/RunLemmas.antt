-- How a run on a report ends, by the fault with which it does.
use Rattle.std.proofs.Common.{◌≡◌, ◌≢◌, ◌∙◌, ◌<◌, ℕ, Bool, true, false, List, length, take, Option, Ok, Err, ap, refl, subst, sym}
use Rattle.std.specs.Prelude.{IfErr, IfOk, Result}
use Rattle.std.specs.Io.KnownBytes.{Appends}
use Rattle.std.proofs.lemmas.Bool.{true≢false}
use Rattle.prefix_scan.specs.declared.divisions.CutFault.{CutFault}
use Rattle.port_call.specs.declared.faults.InputFault.{InputFault}
use Rattle.port_call.specs.declared.faults.InputFault.TheVariants as input
use Rattle.port_call.specs.declared.faults.RunFault.{RunFault}
use Rattle.port_call.specs.declared.faults.RunFault.TheVariants.{Profile, Baplie, Arrival, Movins, Steps, Sequence, Cuts, NoMemory, Write}
use Rattle.port_call.specs.declared.inputs.Inputs.{Inputs}
use Rattle.port_call.specs.Inputs.{case_of}
use Rattle.port_call.specs.Refusals.{IsOfRun, TellsMemory, is_refusal, is_write, is_write_fault, run_fault}
use Rattle.seq_report.specs.declared.complete.Summary.{Summary}
use Rattle.seq_report.specs.declared.plans.CutPlan.{CutPlan}
use Rattle.seq_report.specs.Delivery.{Delivers, IsByPlan}
use Rattle.seq_report.specs.Plans.{Fits, IsUncut}
use Rattle.seq_report.specs.Refusal.{Outcome, outcome_if, outcome_of}

-- nothing is given to a sink that is sound and wasn't used
pub unwritten : (defined : Result Outcome RunFault) (e : RunFault) (held : Option (List ℕ)) (has_failed : Bool) → has_failed ≡ false → is_write_fault e ≡ false
    → Delivers defined (Err e) held held has_failed
unwritten defined e held has_failed sound silent = record {
  written = tt;
  untouched = λ _. refl;
  failed = sound ∙ sym silent;
  cut_short = λ m is. absurd (true≢false (sym (ap is_write_fault is) ∙ silent));
}

-- a fault of a run whose inputs and cuts are right is no refusal, and none of the cuts
module _ (e : RunFault) (of : IsOfRun e) where
  pub no_refusal : is_refusal e ≡ false
  no_refusal = by e of where
    by : (e : RunFault) → IsOfRun e → is_refusal e ≡ false
    by (Profile f) h = absurd h
    by (Baplie f) h = absurd h
    by (Arrival f) h = absurd h
    by (Movins f) h = absurd h
    by (Steps f) h = absurd h
    by (Sequence f) h = absurd h
    by (Cuts f) h = absurd h
    by NoMemory h = refl
    by (Write m) h = refl

  -- and out of memory is reported as itself
  pub tells : TellsMemory e
  tells = by e of where
    by : (e : RunFault) → IsOfRun e → TellsMemory e
    by (Profile f) h = absurd h
    by (Baplie f) h = absurd h
    by (Arrival f) h = absurd h
    by (Movins f) h = absurd h
    by (Steps f) h = absurd h
    by (Sequence f) h = absurd h
    by (Cuts f) h = absurd h
    by NoMemory h = tt
    by (Write m) h = tt

-- of a report that is made: what was given to the sink of it
abbrev outcome_or : Outcome → Result Outcome RunFault → Outcome
outcome_or other (Ok outcome) = outcome
outcome_or other (Err e) = other

module _ (outcome : Outcome) (before after : Option (List ℕ)) (has_failed : Bool) where
  pub all_given : (ended : Result Summary RunFault) → Delivers (Ok outcome) ended before after has_failed → IfOk ended (λ s. (s ≡ outcome.summary) × Appends before after outcome.text)
  all_given (Ok summary) given =
      let w = given.written in
      let same : w.0 ≡ outcome = sym (ap (outcome_or outcome) w.1) in
      (w.2 ∙ ap (λ (o : Outcome). o.summary) same, subst (λ (o : Outcome). Appends before after o.text) same w.3)
  all_given (Err e) given = tt

  pub part_given : (ended : Result Summary RunFault) → Delivers (Ok outcome) ended before after has_failed
      → IfErr ended (λ e. (m : ℕ) → e ≡ Write m → (m < length outcome.text) × Appends before after (take m outcome.text))
  part_given (Ok summary) given = tt
  part_given (Err e) given = λ m is.
      let cut = given.cut_short m is in
      let same : cut.0 ≡ outcome = sym (ap (outcome_or outcome) cut.1) in
      subst (λ (o : Outcome). (m < length o.text) × Appends before after (take m o.text)) same (cut.2, cut.3)

-- a run on lines that the cuts fit is by the plan
pub by_fitting : (plan : CutPlan) (outcome : Outcome) (ended : Result Summary RunFault) (before after : Option (List ℕ)) (has_failed : Bool) → Fits plan outcome.summary.lines
    → Delivers (Ok outcome) ended before after has_failed → IfErr ended IsOfRun → IsByPlan plan (Ok outcome) ended
by_fitting plan outcome (Ok summary) before after has_failed fits given of =
    let told = all_given outcome before after has_failed (Ok summary) given in
    subst (Fits plan) (ap (λ (s : Summary). s.lines) (sym told.0)) fits
by_fitting plan outcome (Err (Profile f)) before after has_failed fits given of = absurd of
by_fitting plan outcome (Err (Baplie f)) before after has_failed fits given of = absurd of
by_fitting plan outcome (Err (Arrival f)) before after has_failed fits given of = absurd of
by_fitting plan outcome (Err (Movins f)) before after has_failed fits given of = absurd of
by_fitting plan outcome (Err (Steps f)) before after has_failed fits given of = absurd of
by_fitting plan outcome (Err (Sequence f)) before after has_failed fits given of = absurd of
by_fitting plan outcome (Err (Cuts f)) before after has_failed fits given of = absurd of
by_fitting plan outcome (Err NoMemory) before after has_failed fits given of = tt
by_fitting plan outcome (Err (Write m)) before after has_failed fits given of = (outcome, refl, fits)

-- what is known of why lines weren't cut
pub record Uncut (plan : CutPlan) (outcome : Outcome) (e : RunFault) : Type 0 where
  pub silent : is_write_fault e ≡ false
  pub accepted : is_refusal e ≡ false
  pub by_plan : IsByPlan plan (Ok outcome) (Err e)
  pub memory : TellsMemory e
  pub unfit : (fault : CutFault) → e ≡ Cuts fault → IsUncut plan outcome.summary.lines (Cuts fault)

pub uncut : (plan : CutPlan) (outcome : Outcome) (e : RunFault) → IsUncut plan outcome.summary.lines e → Uncut plan outcome e
uncut plan outcome (Profile f) h = absurd h
uncut plan outcome (Baplie f) h = absurd h
uncut plan outcome (Arrival f) h = absurd h
uncut plan outcome (Movins f) h = absurd h
uncut plan outcome (Steps f) h = absurd h
uncut plan outcome (Sequence f) h = absurd h
uncut plan outcome (Write m) h = absurd h
uncut plan outcome NoMemory h = record { silent = refl; accepted = refl; by_plan = tt; memory = tt; unfit = λ fault is. absurd (cc) }
uncut plan outcome (Cuts f) h = record {
  silent = refl;
  accepted = refl;
  by_plan = (outcome, refl, h.1);
  memory = h.0;
  unfit = λ fault is. subst (IsUncut plan outcome.summary.lines) is h;
}

-- what is known of a run whose inputs are refused, or weren't read for want of memory
pub record Refused (inputs : Inputs) (plan : CutPlan) (e : RunFault) : Type 0 where
  pub silent : is_write_fault e ≡ false
  pub by_plan : IsByPlan plan (outcome_of inputs) (Err e)
  pub refused : is_refusal e ≡ true → outcome_of inputs ≡ Err e
  pub uncut : (fault : CutFault) → e ≢ Cuts fault

abbrev is_full : InputFault → Bool
is_full input.NoMemory = true
is_full e = false

pub refused : (inputs : Inputs) (plan : CutPlan) (e : InputFault) (fault : RunFault) → fault ≡ run_fault e → (e ≢ input.NoMemory → case_of inputs ≡ Err e) → Refused inputs plan fault
refused inputs plan e fault is read = subst (Refused inputs plan) (sym is) (by e read) where
  other : (e : InputFault) → is_full e ≡ false → (e ≢ input.NoMemory → case_of inputs ≡ Err e) → outcome_of inputs ≡ Err (run_fault e)
  other e differs read = ap outcome_if (read (λ full. true≢false (sym (ap is_full full) ∙ differs)))

  by : (e : InputFault) → (e ≢ input.NoMemory → case_of inputs ≡ Err e) → Refused inputs plan (run_fault e)
  by (input.Profile f) read = record { silent = refl; by_plan = tt; refused = λ _. other (input.Profile f) refl read; uncut = λ fault is. absurd (cc) }
  by (input.Baplie f) read = record { silent = refl; by_plan = tt; refused = λ _. other (input.Baplie f) refl read; uncut = λ fault is. absurd (cc) }
  by (input.Arrival f) read = record { silent = refl; by_plan = tt; refused = λ _. other (input.Arrival f) refl read; uncut = λ fault is. absurd (cc) }
  by (input.Movins f) read = record { silent = refl; by_plan = tt; refused = λ _. other (input.Movins f) refl read; uncut = λ fault is. absurd (cc) }
  by (input.Steps f) read = record { silent = refl; by_plan = tt; refused = λ _. other (input.Steps f) refl read; uncut = λ fault is. absurd (cc) }
  by (input.Sequence f) read = record { silent = refl; by_plan = tt; refused = λ _. other (input.Sequence f) refl read; uncut = λ fault is. absurd (cc) }
  by input.NoMemory read = record { silent = refl; by_plan = tt; refused = λ h. absurd (true≢false (sym h)); uncut = λ fault is. absurd (cc) }

pub is_silent : {A : Type 0} (answer : Result A RunFault) → IfErr answer (λ e. is_write_fault e ≡ false) → is_write answer ≡ false
is_silent (Ok a) h = refl
is_silent (Err e) h = h
