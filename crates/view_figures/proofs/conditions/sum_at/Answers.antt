use Rattle.std.proofs.Common.{◌≡◌, ℕ, subst, arith}
use Rattle.port_call.specs.Views.{case_in_view}
use Rattle.seq_report.specs.Sums.{IsSumAt}
use Rattle.view_figures.proofs.conditions.sum_at.Goals as goal

pub returns : goal.returns
returns c =
    let last : c.loop-line.line ≡ c.args.k = omega arith in
    subst (λ (n : ℕ). IsSumAt (case_in_view c.args.case) n c.loop-line.sum) last c.loop-line.invariant
