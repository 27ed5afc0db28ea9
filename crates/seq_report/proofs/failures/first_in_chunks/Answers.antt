use Rattle.std.proofs.Common.{None, Option, ℕ, subst}
use Rattle.claim_board.specs.Claims.{IsLeastFound}
use Rattle.port_call.specs.Views.{case_in_view}
use Rattle.seq_report.specs.Cases.{first_step_in}
use Rattle.seq_report.proofs.FirstLemmas.{none_first}
use Rattle.seq_report.proofs.failures.first_in_chunks.Goals as goal

pub returns-in-None : goal.returns-in-None
returns-in-None g c =
    let lines = c.args.lines.now in
    let case = case_in_view lines.case in
    let ends = lines.cuts.now in
    none_first case ends lines.cut
    (subst (λ n. IsLeastFound None (first_step_in case ends) n) c.chunks.ensures
    (subst (λ (r : Option ℕ). IsLeastFound r (first_step_in case ends) c.chunks.result) c.in-None.is c.in_ok-least.ensures))
