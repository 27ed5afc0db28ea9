-- What is said of a line whose sum is the one at it.
use Rattle.std.proofs.Common.{◌≡◌, ℕ, Option, ap, ◌∙◌}
use Rattle.moment_sums.specs.Sum.{Sum}
use Rattle.criteria.specs.declared.criterion.Criterion.{Criterion}
use Rattle.port_call.specs.Cases.{CaseRecord, IsReady}
use Rattle.seq_report.specs.Sums.{sum_in}
use Rattle.seq_report.proofs.SumLemmas.{sum_here}
use Rattle.seq_report.specs.Cases.{line_in}
use Rattle.seq_report.specs.Report.{Statement, failure_of, lift_to, step_line}

pub line_here : (case : CaseRecord) → IsReady case → (k : ℕ) (s : Sum) → s ≡ sum_in case k
    → record { lift = lift_to case.sequence.ops k; step = step_line case.profile k s } ≡ line_in case k
line_here case ready k s is =
    ap (λ (t : Sum). record { lift = lift_to case.sequence.ops k; step = step_line case.profile k t }) (is ∙ sum_here case ready k)

-- whether the line fails, by what is said of it
pub line_told : (case : CaseRecord) → IsReady case → (k : ℕ) (s : Sum) (statement : Statement) (f : Option (ℕ × Criterion)) → s ≡ sum_in case k → statement ≡ step_line case.profile k s
    → f ≡ failure_of statement → f ≡ failure_of (line_in case k).step
line_told case ready k s statement f here is told = told ∙ ap failure_of (is ∙ ap (step_line case.profile k) (here ∙ sum_here case ready k))
