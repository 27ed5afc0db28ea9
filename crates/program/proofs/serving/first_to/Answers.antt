use Rattle.std.proofs.Common.{◌∙◌, sym, subst, arith}
use Rattle.seq_report.specs.Plans.{IsPlanFault}
use Rattle.command_line.specs.declared.lines.Task.TheVariants.{First}
use Rattle.program.proofs.StopLemmas.{of_run}
use Rattle.program.proofs.serving.first_to.Goals as goal

pub returns-in-Err-clause-stopped : goal.returns-in-Err-clause-stopped
returns-in-Err-clause-stopped g c edits =
    of_run First c.args.inputs.now edits _ c.in-Err.fault _ c.from.ensures (c.requires.sound ∙ sym c.in-Err.ensures.silent) c.in-Err.ensures.refused
    (λ f is.
    let unfit = c.in-Err.ensures.unfit f is in
    let none = subst (λ plan. IsPlanFault plan unfit.0.summary.lines f) c.options_of-options.ensures.cuts unfit.2 in
    absurd (omega (arith, none.0)))
