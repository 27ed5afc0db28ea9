use Rattle.std.proofs.Common.{sym, subst}
use Rattle.std.proofs.lemmas.Result.{IfErr-weaker}
use Rattle.seq_report.specs.Plans.{IsPlanFault}
use Rattle.seq_report.proofs.PlanLemmas.{fault_of_every}
use Rattle.seq_report.proofs.plans.cuts_of.Goals as goal

pub returns-in-Every-clause-unfit : goal.returns-in-Every-clause-unfit
returns-in-Every-clause-unfit c =
    IfErr-weaker c.every.result _ _
    (λ fault h told. subst (λ plan. IsPlanFault plan c.args.lines fault) (sym c.in-Every.is) (fault_of_every c.in-Every.n c.args.lines fault c.requires told h))
    c.every.ensures.err
