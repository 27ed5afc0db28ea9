use Rattle.std.proofs.Common.{◌≡◌, ◌∙◌, List, ap, subst, sym}
use Rattle.std.proofs.lemmas.Result.{IfOk-weaker}
use Rattle.units_core.specs.declared.frames.Frame.{Frame}
use Rattle.units_core.specs.declared.steps.Step.{Step}
use Rattle.ship_profile.specs.Record.{ProfileRecord}
use Rattle.lift_sequence.specs.Arrival.{ArrivalRecord}
use Rattle.moment_sums.specs.Sum.{sum_of}
use Rattle.port_call.specs.Cases.{CaseRecord}
use Rattle.port_call.specs.Grounds.{IsArrivalTotal}
use Rattle.running_sums.specs.Lines.{AreFirstSums}
use Rattle.seq_report.proofs.sums.sums_of.Goals as goal

pub returns : goal.returns
returns g c =
    let call = c.args.call.now in
    let total = c.total.result.now in
    let arrived = subst (λ (a : ArrivalRecord). IsArrivalTotal c.ground.result.now.ship a total) c.ground.ensures.arrival c.total.ensures.adds_up in
    let of_call = subst (λ (p : ProfileRecord). IsArrivalTotal p call.arrival total) c.ground.ensures.ship arrived in
    let frames : c.frames-frames.result.now ≡ call.profile.ship.frames = c.frames-frames.ensures.value ∙ ap (λ (r : CaseRecord). r.profile.ship.frames) c.case-case.ensures in
    let steps : c.case-case.result.sequence.now.steps ≡ call.sequence.steps = ap (λ (r : CaseRecord). r.sequence.steps) c.case-case.ensures in
    IfOk-weaker c.first_sums.result _ _
    (λ sums made.
    let first = made call.arrival.bodies (of_call.sum ∙ ap (λ (f : List Frame). sum_of f call.arrival.bodies) (sym frames)) in
    subst (λ (s : List Step). AreFirstSums call.profile.ship.frames call.arrival.bodies s c.args.cuts.now sums.items) steps
    (subst (λ (f : List Frame). AreFirstSums f call.arrival.bodies c.case-case.result.sequence.now.steps c.args.cuts.now sums.items) frames first))
    c.first_sums.ensures
