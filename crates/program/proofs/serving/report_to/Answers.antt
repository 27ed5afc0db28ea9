use Rattle.std.proofs.Common.{◌∙◌, Err, ap, refl, subst, take, arith}
use Rattle.port_call.specs.declared.faults.RunFault.{RunFault}
use Rattle.seq_report.specs.Delivery.{IsByPlan}
use Rattle.seq_report.specs.Plans.{IsPlanFault}
use Rattle.seq_report.specs.Refusal.{outcome_of}
use Rattle.run_files.specs.Statuses.{status_on}
use Rattle.command_line.specs.declared.lines.Task.TheVariants.{Check}
use Rattle.program.proofs.StopLemmas.{left_by_run, of_run}
use Rattle.program.proofs.serving.report_to.Goals as goal

pub returns-clause-written : goal.returns-clause-written
returns-clause-written g c edits =
    let told = c.in-Ok.ensures.delivers.written in
    (told.0.text, (told.0, told.1, c.status_on.ensures.value ∙ ap (λ s. status_on s.first) told.2, refl), told.3)

pub returns-in-Err-clause-stopped : goal.returns-in-Err-clause-stopped
returns-in-Err-clause-stopped g c edits =
    of_run Check c.args.inputs.now edits _ c.in-Err.fault _ c.from.ensures c.in-Err.ensures.delivers.failed c.in-Err.ensures.refused
    (λ f is.
    let unfit = subst (λ (e : RunFault). IsByPlan c.options_of-options.result.cuts (outcome_of c.args.inputs.now) (Err e)) is c.in-Err.ensures.plan in
    let none = subst (λ plan. IsPlanFault plan unfit.0.summary.lines f) c.options_of-options.ensures.cuts unfit.2 in
    absurd (omega (arith, none.0)))

pub returns-in-Err-clause-left : goal.returns-in-Err-clause-left
returns-in-Err-clause-left g c edits =
    left_by_run Check c.args.inputs.now edits _ _ c.in-Err.fault _ c.from.ensures c.in-Err.ensures.delivers.untouched
    (λ m is. let cut = c.in-Err.ensures.delivers.cut_short m is in (take m cut.0.text, (cut.0, cut.1, (m, cut.2, refl)), cut.3))
