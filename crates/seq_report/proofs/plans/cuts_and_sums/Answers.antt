use Rattle.std.proofs.Common.{◌∙◌, ◌+◌, length, ap, subst, sym}
use Rattle.port_call.specs.Cases.{CaseRecord}
use Rattle.seq_report.specs.Plans.{Fits, IsPlanFault, IsUncut}
use Rattle.seq_report.proofs.ChunkLemmas.{many_lines}
use Rattle.seq_report.proofs.PlanLemmas.{as_refusal}
use Rattle.seq_report.proofs.plans.cuts_and_sums.Goals as goal

pub returns-in-Err-clause-uncut : goal.returns-in-Err-clause-uncut
returns-in-Err-clause-uncut g c =
    subst (λ n. IsUncut c.args.options.now.cuts n c.cuts_refusal.result)
    (c.lines.ensures ∙ ap (λ (case : CaseRecord). length case.sequence.ops + 1) c.case.ensures ∙ many_lines c.args.call.now)
    (subst (IsUncut c.args.options.now.cuts c.lines.result) (sym c.cuts_refusal.ensures.exact) (as_refusal c.args.options.now.cuts c.lines.result c.in-Err.fault c.in-Err.ensures.unfit))

pub returns-in-Ok-sums_of-clause-fits : goal.returns-in-Ok-sums_of-clause-fits
returns-in-Ok-sums_of-clause-fits g c =
    subst (Fits c.args.options.now.cuts)
    (c.lines.ensures ∙ ap (λ (case : CaseRecord). length case.sequence.ops + 1) c.case.ensures ∙ many_lines c.args.call.now)
    c.in-Ok.ensures.fits
