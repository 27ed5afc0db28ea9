use Rattle.std.proofs.Common.{◌≡◌, ◌∙◌, ◌+◌, suc, length, List, ap, subst, sym, arith}
use Rattle.std.specs.Arc.{arc_value}
use Rattle.lift_sequence.specs.declared.operations.Op.{Op}
use Rattle.port_call.specs.Cases.{case_on}
use Rattle.seq_report.specs.Cases.{outcome_in, passed_before}
use Rattle.seq_report.specs.Refusal.{Outcome}
use Rattle.seq_report.proofs.PassedLemmas.{all_passed}
use Rattle.what_if.specs.Bases.{Pass, report_on}
use Rattle.what_if.specs.Sessions.{Summed}
use Rattle.what_if.proofs.ChangeLemmas.{reports}
use Rattle.what_if.proofs.summed_lists.SummedList.first_fail_kept.Goals as goal

pub keep-requires : goal.keep-requires
keep-requires c =
    let base = arc_value c.self.inside.base in
    let s = c.self.inside.sequence in
    let case = case_on base.ship base.arrival s in
    let told = sym (reports base s) ∙ ap (λ (v : Summed). report_on v.base v.ops) c.self.view_is in
    let first : c.first_fail_behind-first.result ≡ (outcome_in case).summary.first = c.first_fail_behind-first.ensures ∙ ap (λ (o : Outcome). o.summary.first) (sym told) in
    let lines : c.len.result + 1 ≡ suc (length s.ops) = omega (arith, c.len.ensures) in
    let count : c.count_before-passing.result ≡ passed_before (outcome_in case).summary.first (suc (length s.ops)) = c.count_before-passing.ensures ∙ (λ j. passed_before (first j) (lines j)) in
    let pass : Pass base s.ops c.count_before-passing.result = subst (λ n. Pass base s.ops n) (sym count) (all_passed case) in
    subst (λ (l : List Op). Pass base l c.count_before-passing.result) (sym c.ops-then-passing-start.ensures) pass
