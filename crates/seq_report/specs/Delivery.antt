-- How a run on a report ends: what the sink was given, and how the plan of the cuts stands to it.
use Rattle.std.specs.Prelude.{◌≡◌, ℕ, ◌<◌, ⊤, Bool, false, List, length, take, Option, IfOk, IfErr}
use Rattle.std.specs.Prelude.{Result, Ok, Err}
use Rattle.std.specs.Io.KnownBytes.{Appends}
use Rattle.port_call.specs.declared.faults.RunFault.{RunFault}
use Rattle.port_call.specs.declared.faults.RunFault.TheVariants.{Cuts, Write}
use Rattle.port_call.specs.Refusals.{is_write, is_write_fault}
use Rattle.seq_report.specs.declared.complete.Summary.{Summary}
use Rattle.seq_report.specs.declared.plans.CutPlan.{CutPlan}
use Rattle.seq_report.specs.Plans.{Fits, IsPlanFault}
use Rattle.seq_report.specs.Refusal.{Outcome}

-- What a sink was given of a report that is defined: all of it where the run ended well, with its
-- summary. Else nothing, unless the sink failed: then so many of its bytes as the fault says, and
-- not all of them. The sink has failed exactly where the fault says so.
pub record Delivers (defined : Result Outcome RunFault) (ended : Result Summary RunFault)
    (before after : Option (List ℕ)) (has_failed : Bool) : Type 0 where
  pub written : IfOk ended (λ summary. (outcome : Outcome) × (defined ≡ Ok outcome)
      × (summary ≡ outcome.summary) × Appends before after outcome.text)
  pub untouched : IfErr ended (λ e. is_write_fault e ≡ false → after ≡ before)
  pub failed : has_failed ≡ is_write ended
  pub cut_short : IfErr ended (λ e. (m : ℕ) → e ≡ Write m → (outcome : Outcome)
      × (defined ≡ Ok outcome) × (m < length outcome.text)
      × Appends before after (take m outcome.text))

-- The plan of the cuts fits the lines of a report that was written, if only in part; and where it
-- is refused, it has this fault.
abbrev pub IsByPlan : CutPlan → Result Outcome RunFault → Result Summary RunFault → Type 0
IsByPlan plan defined (Ok summary) = Fits plan summary.lines
IsByPlan plan defined (Err (Cuts fault)) = (outcome : Outcome) × (defined ≡ Ok outcome)
    × IsPlanFault plan outcome.summary.lines fault
IsByPlan plan defined (Err (Write m)) = (outcome : Outcome) × (defined ≡ Ok outcome)
    × Fits plan outcome.summary.lines
IsByPlan plan defined (Err e) = ⊤
