use Rattle.std.proofs.Common.{◌≡◌, ◌∙◌, length, suc, subst, sym, ap, arith}
use Rattle.ship_profile.specs.Record.{ProfileRecord}
use Rattle.lift_sequence.specs.Arrival.{ArrivalRecord}
use Rattle.port_call.specs.Cases.{CaseRecord}
use Rattle.port_call.specs.Grounds.{IsArrivalTotal}
use Rattle.seq_report.specs.Cases.{ArePassed, outcome_in, passed_before}
use Rattle.seq_report.specs.Firsts.{first_within}
use Rattle.seq_report.proofs.PassedLemmas.{all_passed}
use Rattle.running_tests.proofs.reports.searches.from_both.Goals as goal

pub first_fail_behind-requires-clause-total : goal.first_fail_behind-requires-clause-total
first_fail_behind-requires-clause-total c =
    let call = c.args.call.now in
    let total = c.total-total.result.now in
    let arrived = subst (λ (a : ArrivalRecord). IsArrivalTotal c.ground.result.now.ship a total) c.ground.ensures.arrival c.total-total.ensures.adds_up in
    let of_call = subst (λ (p : ProfileRecord). IsArrivalTotal p call.arrival total) c.ground.ensures.ship arrived in
    subst (λ (r : CaseRecord). IsArrivalTotal r.profile r.arrival total) (sym c.case.ensures) of_call

pub first_fail_behind-requires-clause-passed : goal.first_fail_behind-requires-clause-passed
first_fail_behind-requires-clause-passed c = λ k low. absurd (omega (arith, low))

pub first_fail_behind-again-requires-clause-total : goal.first_fail_behind-again-requires-clause-total
first_fail_behind-again-requires-clause-total c =
    let call = c.args.call.now in
    let total = c.total-total.result.now in
    let arrived = subst (λ (a : ArrivalRecord). IsArrivalTotal c.ground.result.now.ship a total) c.ground.ensures.arrival c.total-total.ensures.adds_up in
    let of_call = subst (λ (p : ProfileRecord). IsArrivalTotal p call.arrival total) c.ground.ensures.ship arrived in
    subst (λ (r : CaseRecord). IsArrivalTotal r.profile r.arrival total) (sym c.case-2.ensures) of_call

-- the lines before the first that fails pass
pub first_fail_behind-again-requires-clause-passed : goal.first_fail_behind-again-requires-clause-passed
first_fail_behind-again-requires-clause-passed c =
    let case = c.args.call.now in
    let first = c.first_fail_behind.ensures ∙ ap (λ (r : CaseRecord). (outcome_in r).summary.first) c.case.ensures in
    let is = sym first ∙ c.in_ok-first.was in
    subst (λ (r : CaseRecord). ArePassed r c.in_ok-first.first.0) (sym c.case-2.ensures) (subst (λ o. ArePassed case (passed_before o (suc (length case.sequence.ops)))) is (all_passed case))

pub first_fail_behind-again-requires-clause-inside : goal.first_fail_behind-again-requires-clause-inside
first_fail_behind-again-requires-clause-inside c =
    let case = c.args.call.now in
    let first = c.first_fail_behind.ensures ∙ ap (λ (r : CaseRecord). (outcome_in r).summary.first) c.case.ensures in
    let within = first_within case (suc (length case.sequence.ops)) 0 c.in_ok-first.first (sym first ∙ c.in_ok-first.was) in
    omega (arith, within.1, ap (λ (r : CaseRecord). length r.sequence.ops) c.case-2.ensures)
