use Rattle.std.proofs.Common.{Ok, subst}
use Rattle.port_call.specs.Cases.{CaseRecord}
use Rattle.seq_report.specs.Cases.{outcome_in}
use Rattle.seq_report.specs.Delivery.{Delivers}
use Rattle.seq_report.proofs.runs.report_from.Goals as goal

pub returns-clause-delivers : goal.returns-clause-delivers
returns-clause-delivers g c =
    subst (λ (r : CaseRecord). Delivers (Ok (outcome_in r)) c.report_lines.result (g.S.Sink.contents c.args.sink.now) (g.S.Sink.contents c.report_lines.new.sink)
    (g.S.Sink.has_failed c.report_lines.new.sink)) c.new-case.ensures c.report_lines.ensures.delivers
