use Rattle.std.proofs.Common.{◌∙◌, ap, length, subst, sym, arith}
use Rattle.std.specs.Arc.{arc_value}
use Rattle.port_call.specs.Cases.{CaseRecord, IsMade, case_on, on_ground}
use Rattle.port_call.specs.Grounds.{GroundRecord, IsArrivalTotal}
use Rattle.seq_report.specs.Cases.{ArePassed, outcome_in}
use Rattle.seq_report.specs.Refusal.{Outcome}
use Rattle.seq_report.proofs.PassedLemmas.{none_fails}
use Rattle.what_if.specs.Bases.{Pass, report_on}
use Rattle.what_if.specs.Sessions.{Summed}
use Rattle.what_if.proofs.ChangeLemmas.{reports}
use Rattle.what_if.proofs.summed_lists.SummedList.first_fail_behind.Goals as goal

pub returns-then-passing-len : goal.returns-then-passing-len
returns-then-passing-len c =
    let base = arc_value c.self.inside.base in
    let s = c.self.inside.sequence in
    let pass : Pass base s.ops c.args.passing = subst (λ (v : Summed). Pass v.base v.ops c.args.passing) (sym c.self.view_is) c.requires in
    let none = none_fails (case_on base.ship base.arrival s) (λ k low. pass k (omega (arith, low, c.if-passing-len.true, c.len.ensures))) in
    none ∙ ap (λ (o : Outcome). o.summary.first) (sym (reports base s) ∙ ap (λ (v : Summed). report_on v.base v.ops) c.self.view_is)

pub case-case-requires : goal.case-case-requires
case-case-requires c =
    let s = c.self.inside.sequence in
    subst (λ (b : GroundRecord). IsMade b.ship b.arrival s) (sym c.deref.ensures) (record { legal = c.self.invariant.legal; steps = c.self.invariant.steps })

pub first_fail_behind-requires-clause-total : goal.first_fail_behind-requires-clause-total
first_fail_behind-requires-clause-total c =
    let total = c.total.result.now in
    let same = c.deref-2.ensures ∙ sym c.deref.ensures in
    let known = subst (λ (b : GroundRecord). IsArrivalTotal b.ship b.arrival total) same c.total.ensures.adds_up in
    subst (λ (r : CaseRecord). IsArrivalTotal r.profile r.arrival total) (sym c.case-case.ensures) known

pub first_fail_behind-requires-clause-inside : goal.first_fail_behind-requires-clause-inside
first_fail_behind-requires-clause-inside c = omega (arith, c.if-passing-len.false, c.len.ensures, ap (λ (r : CaseRecord). length r.sequence.ops) c.case-case.ensures)

pub first_fail_behind-requires-clause-passed : goal.first_fail_behind-requires-clause-passed
first_fail_behind-requires-clause-passed c =
    let s = c.self.inside.sequence in
    let pass : Pass (arc_value c.self.inside.base) s.ops c.args.passing = subst (λ (v : Summed). Pass v.base v.ops c.args.passing) (sym c.self.view_is) c.requires in
    subst (λ (r : CaseRecord). ArePassed r c.args.passing) (sym (c.case-case.ensures ∙ ap (λ (b : GroundRecord). on_ground b s) c.deref.ensures)) pass

pub returns : goal.returns
returns c =
    let base = arc_value c.self.inside.base in
    let s = c.self.inside.sequence in
    c.first_fail_behind.ensures ∙ ap (λ (r : CaseRecord). (outcome_in r).summary.first) (c.case-case.ensures ∙ ap (λ (b : GroundRecord). on_ground b s) c.deref.ensures)
    ∙ ap (λ (o : Outcome). o.summary.first) (sym (reports base s) ∙ ap (λ (v : Summed). report_on v.base v.ops) c.self.view_is)
