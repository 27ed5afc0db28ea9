use Rattle.std.proofs.Common.{◌≡◌, ◌∙◌, Ok, ap, subst, sym}
use Rattle.std.specs.Arc.{arc_value}
use Rattle.std.proofs.lemmas.Result.{IfErr-weaker}
use Rattle.port_call.specs.Cases.{case_on}
use Rattle.port_call.specs.Grounds.{GroundRecord}
use Rattle.seq_report.specs.Cases.{outcome_in}
use Rattle.seq_report.specs.Delivery.{Delivers}
use Rattle.seq_report.specs.Refusal.{Outcome}
use Rattle.seq_report.proofs.RunLemmas.{by_fitting, no_refusal, tells, uncut, unwritten}
use Rattle.what_if.specs.Bases.{report_on}
use Rattle.what_if.specs.Sessions.{Summed}
use Rattle.what_if.proofs.ChangeLemmas.{reports}
use Rattle.what_if.proofs.summed_lists.SummedList.report.Goals as goal

pub returns-in-Err-clause-delivers : goal.returns-in-Err-clause-delivers
returns-in-Err-clause-delivers g c =
    let outcome = report_on c.args.self.now.base c.args.self.now.ops in
    let why = uncut c.args.options.now.cuts outcome c.in-Err.fault c.in-Err.ensures.uncut in
    unwritten (Ok outcome) c.in-Err.fault (g.S.Sink.contents c.args.sink.now) (g.S.Sink.has_failed c.args.sink.now) c.requires.sound why.silent

pub returns-in-Err-clause-plan : goal.returns-in-Err-clause-plan
returns-in-Err-clause-plan g c = (uncut c.args.options.now.cuts (report_on c.args.self.now.base c.args.self.now.ops) c.in-Err.fault c.in-Err.ensures.uncut).by_plan

pub returns-in-Err-clause-accepted : goal.returns-in-Err-clause-accepted
returns-in-Err-clause-accepted g c = (uncut c.args.options.now.cuts (report_on c.args.self.now.base c.args.self.now.ops) c.in-Err.fault c.in-Err.ensures.uncut).accepted

pub returns-in-Err-clause-memory : goal.returns-in-Err-clause-memory
returns-in-Err-clause-memory g c = (uncut c.args.options.now.cuts (report_on c.args.self.now.base c.args.self.now.ops) c.in-Err.fault c.in-Err.ensures.uncut).memory

pub returns-clause-delivers : goal.returns-clause-delivers
returns-clause-delivers g c =
    let base = arc_value c.self.inside.base in
    let s = c.self.inside.sequence in
    let made : outcome_in (case_on c.profile.result.now c.arrival.result.now s) ≡ outcome_in (case_on base.ship base.arrival s) =
    (λ j. outcome_in (case_on ((c.profile.ensures ∙ ap (λ (b : GroundRecord). b.ship) c.deref-2.ensures) j) ((c.arrival.ensures ∙ ap (λ (b : GroundRecord). b.arrival) c.deref-3.ensures) j) s)) in
    let same = made ∙ sym (reports base s) ∙ ap (λ (v : Summed). report_on v.base v.ops) c.self.view_is in
    subst (λ (o : Outcome). Delivers (Ok o) c.report_from.result (g.S.Sink.contents c.args.sink.now) (g.S.Sink.contents c.report_from.new.sink) (g.S.Sink.has_failed c.report_from.new.sink))
    same c.report_from.ensures.delivers

pub returns-clause-plan : goal.returns-clause-plan
returns-clause-plan g c =
    by_fitting c.args.options.now.cuts (report_on c.args.self.now.base c.args.self.now.ops) c.report_from.result (g.S.Sink.contents c.args.sink.now) (g.S.Sink.contents c.report_from.new.sink)
    (g.S.Sink.has_failed c.report_from.new.sink) c.in-Ok.ensures.fits (returns-clause-delivers g c) c.report_from.ensures.fault

pub returns-clause-accepted : goal.returns-clause-accepted
returns-clause-accepted g c = IfErr-weaker c.report_from.result _ _ no_refusal c.report_from.ensures.fault

pub returns-clause-memory : goal.returns-clause-memory
returns-clause-memory g c = IfErr-weaker c.report_from.result _ _ tells c.report_from.ensures.fault
