use Rattle.std.proofs.Common.{◌≡◌, ◌∙◌, ◌+◌, length, ap, subst, sym, arith}
use Rattle.seq_report.specs.Plans.{Fits, IsUncut}
use Rattle.seq_report.proofs.PlanLemmas.{as_refusal}
use Rattle.what_if.specs.Sessions.{Summed}
use Rattle.what_if.proofs.ChangeLemmas.{lines_on}
use Rattle.what_if.proofs.summed_lists.SummedList.cut_by_plan.Goals as goal

pub returns-in-Err-clause-uncut : goal.returns-in-Err-clause-uncut
returns-in-Err-clause-uncut c =
    let list = c.args.self.now in
    let viewed = ap (λ (v : Summed). length v.ops) c.self.view_is in
    let count : c.len.result + 1 ≡ length list.ops + 1 = omega (arith, c.len.ensures, viewed) in
    subst (λ n. IsUncut c.args.plan n c.cuts_refusal.result) (count ∙ lines_on list.base list.ops)
    (subst (IsUncut c.args.plan (c.len.result + 1)) (sym c.cuts_refusal.ensures.exact) (as_refusal c.args.plan (c.len.result + 1) c.in-Err.fault c.in-Err.ensures.unfit))

pub returns-in-Ok-first_sums-clause-fits : goal.returns-in-Ok-first_sums-clause-fits
returns-in-Ok-first_sums-clause-fits c =
    let list = c.args.self.now in
    let viewed = ap (λ (v : Summed). length v.ops) c.self.view_is in
    let count : c.len.result + 1 ≡ length list.ops + 1 = omega (arith, c.len.ensures, viewed) in
    subst (Fits c.args.plan) (count ∙ lines_on list.base list.ops) c.in-Ok.ensures.fits
