use Rattle.std.proofs.Common.{◌∙◌, subst, sym, arith}
use Rattle.ship_profile.specs.Record.{ProfileRecord}
use Rattle.lift_sequence.specs.Arrival.{ArrivalRecord}
use Rattle.moment_sums.specs.Bounded.{IsBounded}
use Rattle.moment_sums.specs.Kept.{size_of}
use Rattle.port_call.specs.Cases.{CaseRecord}
use Rattle.port_call.specs.Grounds.{IsArrivalTotal}
use Rattle.port_call.specs.Views.{case_in_view}
use Rattle.running_sums.proofs.SumLemmas.{room_behind}
use Rattle.seq_report.proofs.SumLemmas.{sum_here}
use Rattle.running_tests.proofs.reports.sums.sums_of_chunks.Goals as goal

pub walk_on-requires-clause-sum : goal.walk_on-requires-clause-sum
walk_on-requires-clause-sum g c =
    let call = c.in-Ok.call in
    let total = c.total.result.now in
    let case = case_in_view c.case-case.result in
    let ready = c.case-case.result.ready in
    let arrived = subst (λ (a : ArrivalRecord). IsArrivalTotal c.ground.result.now.ship a total) c.ground.ensures.arrival c.total.ensures.adds_up in
    let of_call = subst (λ (p : ProfileRecord). IsArrivalTotal p call.arrival total) c.ground.ensures.ship arrived in
    let of_case = subst (λ (r : CaseRecord). IsArrivalTotal r.profile r.arrival total) (sym c.case-case.ensures) of_call in
    record {
      value = of_case.sum;
      bounded = subst IsBounded (sym (of_case.sum ∙ sum_here case ready 0)) (ready.bounded 0);
      room = room_behind case.sequence.steps 0 (size_of total) (omega (arith, ready.few, ready.long)) (omega arith) (omega (arith, of_case.size));
    }
