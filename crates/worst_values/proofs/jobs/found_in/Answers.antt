use Rattle.std.proofs.lemmas.Result.{IfOk-weaker}
use Rattle.port_call.specs.Views.{case_in_view}
use Rattle.worst_values.specs.declared.findings.Findings.{Findings}
use Rattle.worst_values.proofs.FirstLemmas.{few_lines}
use Rattle.worst_values.proofs.jobs.found_in.Goals as goal

pub returns-clause-few : goal.returns-clause-few
returns-clause-few g c =
    IfOk-weaker c.found_in_chunks.result _ _
    (λ (f : Findings) is. few_lines (case_in_view c.args.case) f c.args.case.ready is)
    c.found_in_chunks.ensures
