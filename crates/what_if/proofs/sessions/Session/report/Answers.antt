use Rattle.std.proofs.Common.{Ok, subst}
use Rattle.seq_report.specs.Delivery.{Delivers, IsByPlan}
use Rattle.what_if.specs.Bases.{report_on}
use Rattle.what_if.specs.Sessions.{SessionRecord}
use Rattle.what_if.proofs.sessions.Session.report.Goals as goal

pub returns-clause-delivers : goal.returns-clause-delivers
returns-clause-delivers g c =
    subst (λ (v : SessionRecord). Delivers (Ok (report_on v.base v.ops)) c.report.result (g.S.Sink.contents c.args.sink.now) (g.S.Sink.contents c.report.new.sink) (g.S.Sink.has_failed c.report.new.sink))
    c.self.view_is c.report.ensures.delivers

pub returns-clause-plan : goal.returns-clause-plan
returns-clause-plan g c = subst (λ (v : SessionRecord). IsByPlan c.args.options.now.cuts (Ok (report_on v.base v.ops)) c.report.result) c.self.view_is c.report.ensures.plan
