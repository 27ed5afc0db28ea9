use Rattle.std.proofs.Common.{◌≡◌, ◌∙◌, ◌+◌, ◌-◌, ◌^◌, ◌≤◌, length, map, ap, subst, sym}
use Rattle.std.specs.Arc.{arc_value}
use Rattle.ship_profile.specs.Record.{ProfileRecord}
use Rattle.lift_sequence.proofs.FollowLemmas.{as_long}
use Rattle.lift_sequence.proofs.States.{as_many}
use Rattle.port_call.specs.Grounds.{GroundRecord, aboard_first}
use Rattle.running_sums.specs.Fours.{CostsUpTo, WereNear, change_of, fours}
use Rattle.what_if.specs.Sessions.{Summed, restows_behind}
use Rattle.what_if.proofs.ChangeLemmas.{are_kept, as_many_steps}
use Rattle.what_if.proofs.WeighLemmas.{cost_after}
use Rattle.running_sums.proofs.RenewLemmas.{were_near}
use Rattle.what_if.proofs.summed_lists.SummedList.reweigh.Goals as goal

pub renew-requires-clause-near : goal.renew-requires-clause-near
renew-requires-clause-near c =
    let base = arc_value c.self.inside.base in
    let frames = base.ship.ship.frames in
    let sequence = c.self.inside.sequence in
    let sums = c.self.inside.sums in
    let after = c.weigh.new.sequence in
    let place = c.args.k - 1 in
    let done = c.weigh.ensures.done base.ship (aboard_first base) c.self.invariant.legal c.self.invariant.steps in
    let long_new = ap (λ l. length l) done ∙ as_many base.ship (aboard_first base) after.ops ∙ ap (λ l. length l) c.weigh.ensures.ops ∙ as_long c.args.kg sequence.ops place in
    let same : c.frames.result.now ≡ frames = c.frames.ensures.value ∙ ap (λ (p : ProfileRecord). p.ship.frames) (c.profile.ensures ∙ ap (λ (b : GroundRecord). b.ship) c.deref.ensures) in
    subst (λ f. WereNear place after.ops (map (change_of f) after.steps) sums.values) (sym same)
    (were_near frames c.args.kg place sequence.ops after.ops c.weigh.ensures.ops sequence.steps after.steps sums.values c.weigh.ensures.steps
    (as_many_steps base sequence sums c.self.invariant) long_new (are_kept base sequence sums c.self.invariant))

pub invariant_of-self : goal.invariant_of-self
invariant_of-self c =
    let base = arc_value c.self.inside.base in
    let frames = base.ship.ship.frames in
    let done = c.weigh.ensures.done base.ship (aboard_first base) c.self.invariant.legal c.self.invariant.steps in
    let same : c.frames.result.now ≡ frames = c.frames.ensures.value ∙ ap (λ (p : ProfileRecord). p.ship.frames) (c.profile.ensures ∙ ap (λ (b : GroundRecord). b.ship) c.deref.ensures) in
    record {
      legal = c.weigh.ensures.legal base.ship (aboard_first base) c.self.invariant.legal;
      steps = done;
      changes = c.renew.ensures.values ∙ (λ j. fours (map (change_of (same j)) (done j)));
    }

pub returns-clause-cost : goal.returns-clause-cost
returns-clause-cost c =
    let frames = (arc_value c.self.inside.base).ship.ship.frames in
    let sequence = c.self.inside.sequence in
    let place = c.args.k - 1 in
    let joins = c.renew.new.sums.joins in
    let long = ap (λ l. length l) c.weigh.ensures.ops ∙ as_long c.args.kg sequence.ops place in
    subst (λ (v : Summed). CostsUpTo (restows_behind v.ops place + 2) (length v.ops) v.joins joins) c.self.view_is (
      c.renew.ensures.cost.0,
      λ levels h.
          cost_after frames c.args.kg place sequence.ops c.weigh.new.sequence.ops c.weigh.ensures.ops levels joins c.self.inside.sums.joins
          (c.renew.ensures.cost.1 levels (subst (λ n. n ≤ 2 ^ levels) (sym long) h)),
    )
