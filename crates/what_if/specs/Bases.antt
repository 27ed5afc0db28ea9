-- The sums, the report and the verdicts of a list of steps that goes on from a ship and what is
-- aboard of her on arrival.
use Rattle.std.specs.Prelude.{◌≡◌, ℕ, ◌<◌, ◌≤◌, List, length, Option, None, MatchOption}
use Rattle.lift_sequence.specs.declared.operations.Op.{Op}
use Rattle.criteria.specs.Assessment.{Assessment, assessment_of}
use Rattle.criteria.specs.Figures.{IsVerdict}
use Rattle.criteria.specs.declared.verdicts.Verdict.{Verdict}
use Rattle.port_call.specs.Cases.{CaseRecord, on_ground}
use Rattle.port_call.specs.Grounds.{GroundRecord, aboard_first, steps_on}
use Rattle.port_call.specs.Sums.{sum_at}
use Rattle.seq_report.specs.Refusal.{Outcome, outcome_on}
use Rattle.seq_report.specs.Report.{failure_of, lines_of, step_line}

-- the case of a list that can be done from there
abbrev pub case_of : GroundRecord → List Op → CaseRecord
case_of base ops = on_ground base (record { ops = ops; steps = steps_on base ops })

-- the report on a list, as a fresh run makes it
unfoldable pub report_on : GroundRecord → List Op → Outcome
report_on base ops = outcome_on (lines_of base.ship (aboard_first base) ops)

-- how the condition after k steps is judged, 0 being the one on arrival
abbrev pub assessment_at : GroundRecord → List Op → ℕ → Assessment
assessment_at base ops k = assessment_of base.ship (sum_at base.ship (aboard_first base) ops k)

-- the verdict on it; none where the list has fewer steps
abbrev pub IsJudgedAt : Option Verdict → GroundRecord → List Op → ℕ → Type 0
IsJudgedAt result base ops k =
    MatchOption result (length ops < k)
    (λ verdict. (k ≤ length ops) × IsVerdict verdict base.ship.ship (assessment_at base ops k))

-- the first n conditions pass, the first being the one on arrival
abbrev pub Pass : GroundRecord → List Op → ℕ → Type 0
Pass base ops n = (k : ℕ) → k < n
    → failure_of (step_line base.ship k (sum_at base.ship (aboard_first base) ops k)) ≡ None
