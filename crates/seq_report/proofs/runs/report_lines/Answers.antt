use Rattle.std.proofs.Common.{Ok, refl, subst}
use Rattle.port_call.specs.Views.{case_in_view}
use Rattle.port_call.specs.declared.faults.RunFault.TheVariants.{NoMemory}
use Rattle.seq_report.specs.Cases.{outcome_in}
use Rattle.seq_report.specs.Delivery.{Delivers}
use Rattle.seq_report.specs.Refusal.{Outcome}
use Rattle.seq_report.proofs.RunLemmas.{unwritten}
use Rattle.seq_report.proofs.runs.report_lines.Goals as goal

pub returns-in-Ok-clause-delivers : goal.returns-in-Ok-clause-delivers
returns-in-Ok-clause-delivers g c =
    subst (λ (outcome : Outcome). Delivers (Ok outcome) c.put_report.result (g.S.Sink.contents c.args.sink.now) (g.S.Sink.contents c.put_report.new.sink) (g.S.Sink.has_failed c.put_report.new.sink))
    c.in-Ok.ensures c.put_report.ensures.delivers

pub returns-in-Err-clause-delivers : goal.returns-in-Err-clause-delivers
returns-in-Err-clause-delivers g c =
    unwritten (Ok (outcome_in (case_in_view c.args.lines.now.case))) NoMemory (g.S.Sink.contents c.args.sink.now) (g.S.Sink.has_failed c.args.sink.now) c.requires.sound refl
