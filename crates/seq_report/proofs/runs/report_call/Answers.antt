use Rattle.std.proofs.Common.{◌≡◌, Ok, ap, subst}
use Rattle.std.proofs.lemmas.Result.{IfErr-weaker}
use Rattle.port_call.specs.Cases.{CaseRecord}
use Rattle.seq_report.specs.Cases.{outcome_in}
use Rattle.seq_report.specs.Delivery.{Delivers}
use Rattle.seq_report.proofs.RunLemmas.{by_fitting, no_refusal, tells, uncut, unwritten}
use Rattle.seq_report.proofs.runs.report_call.Goals as goal

pub returns-in-Err-clause-delivers : goal.returns-in-Err-clause-delivers
returns-in-Err-clause-delivers g c =
    let why = uncut c.args.options.now.cuts (outcome_in c.args.call.now) c.in-Err.fault c.in-Err.ensures.uncut in
    unwritten (Ok (outcome_in c.args.call.now)) c.in-Err.fault (g.S.Sink.contents c.args.sink.now) (g.S.Sink.has_failed c.args.sink.now) c.requires.sound why.silent

pub returns-in-Err-clause-plan : goal.returns-in-Err-clause-plan
returns-in-Err-clause-plan g c = (uncut c.args.options.now.cuts (outcome_in c.args.call.now) c.in-Err.fault c.in-Err.ensures.uncut).by_plan

pub returns-in-Err-clause-accepted : goal.returns-in-Err-clause-accepted
returns-in-Err-clause-accepted g c = (uncut c.args.options.now.cuts (outcome_in c.args.call.now) c.in-Err.fault c.in-Err.ensures.uncut).accepted

pub returns-in-Err-clause-memory : goal.returns-in-Err-clause-memory
returns-in-Err-clause-memory g c = (uncut c.args.options.now.cuts (outcome_in c.args.call.now) c.in-Err.fault c.in-Err.ensures.uncut).memory

pub returns-clause-delivers : goal.returns-clause-delivers
returns-clause-delivers g c =
    subst (λ (case : CaseRecord). Delivers (Ok (outcome_in case)) c.report_lines.result (g.S.Sink.contents c.args.sink.now) (g.S.Sink.contents c.report_lines.new.sink)
    (g.S.Sink.has_failed c.report_lines.new.sink)) c.case-case.ensures c.report_lines.ensures.delivers

pub returns-clause-plan : goal.returns-clause-plan
returns-clause-plan g c =
    by_fitting c.args.options.now.cuts (outcome_in c.args.call.now) c.report_lines.result (g.S.Sink.contents c.args.sink.now) (g.S.Sink.contents c.report_lines.new.sink)
    (g.S.Sink.has_failed c.report_lines.new.sink) c.in-Ok.ensures.fits (returns-clause-delivers g c) c.report_lines.ensures.fault

pub returns-clause-accepted : goal.returns-clause-accepted
returns-clause-accepted g c = IfErr-weaker c.report_lines.result _ _ no_refusal c.report_lines.ensures.fault

pub returns-clause-memory : goal.returns-clause-memory
returns-clause-memory g c = IfErr-weaker c.report_lines.result _ _ tells c.report_lines.ensures.fault
