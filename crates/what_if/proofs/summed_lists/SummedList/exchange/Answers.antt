use Rattle.std.proofs.Common.{◌≡◌, ◌∙◌, ◌-◌, ◌<◌, List, length, map, ap, subst, sym, arith}
use Rattle.std.specs.Arc.{arc_value}
use Rattle.std.specs.List.{swap}
use Rattle.std.proofs.lemmas.List.Edits.{length-swap}
use Rattle.ship_profile.specs.Record.{ProfileRecord}
use Rattle.lift_sequence.specs.declared.operations.Op.{Op}
use Rattle.port_call.specs.Grounds.{GroundRecord, aboard_first}
use Rattle.running_sums.specs.Fours.{CostsUpTo, WereExchanged, change_of, fours}
use Rattle.what_if.specs.Sessions.{IsSummed, Summed}
use Rattle.running_sums.proofs.ChangeLemmas.{small}
use Rattle.what_if.proofs.ChangeLemmas.{are_kept, as_many_steps}
use Rattle.running_sums.proofs.SwapLemmas.{map_swap}
use Rattle.what_if.proofs.summed_lists.SummedList.exchange.Goals as goal

pub invariant_of-self : goal.invariant_of-self
invariant_of-self c = subst (λ s. IsSummed (arc_value c.self.inside.base) s c.self.inside.sums) (sym c.if-not-swap.ensures.same) c.self.invariant

pub renew_both-requires-clause-one : goal.renew_both-requires-clause-one
renew_both-requires-clause-one c =
    let long = ap (λ (l : List Op). length l) c.if-not-swap.ensures.ops ∙ length-swap c.self.inside.sequence.ops (c.args.a - 1) (c.args.b - 1) in
    let same = ap (λ (v : Summed). length v.ops) c.self.view_is in
    omega (arith, c.requires.first.0, c.requires.last.0, long, same)

pub renew_both-requires-clause-other : goal.renew_both-requires-clause-other
renew_both-requires-clause-other c =
    let long = ap (λ (l : List Op). length l) c.if-not-swap.ensures.ops ∙ length-swap c.self.inside.sequence.ops (c.args.a - 1) (c.args.b - 1) in
    let same = ap (λ (v : Summed). length v.ops) c.self.view_is in
    omega (arith, c.requires.first.1, c.requires.last.1, long, same)

pub renew_both-requires-clause-exchanged : goal.renew_both-requires-clause-exchanged
renew_both-requires-clause-exchanged c =
    let base = arc_value c.self.inside.base in
    let frames = base.ship.ship.frames in
    let sequence = c.self.inside.sequence in
    let tree = c.self.inside.sums in
    let i = c.args.a - 1 in
    let j = c.args.b - 1 in
    let many = as_many_steps base sequence tree c.self.invariant in
    let viewed = ap (λ (v : Summed). length v.ops) c.self.view_is in
    let low : i < length sequence.steps = omega (arith, c.requires.first.0, c.requires.last.0, many, viewed) in
    let high : j < length sequence.steps = omega (arith, c.requires.first.1, c.requires.last.1, many, viewed) in
    let same : c.frames.result.now ≡ frames = c.frames.ensures.value ∙ ap (λ (p : ProfileRecord). p.ship.frames) (c.profile.ensures ∙ ap (λ (b : GroundRecord). b.ship) c.deref.ensures) in
    let swapped : map (change_of frames) c.swap.new.self.steps ≡ swap (map (change_of frames) sequence.steps) i j
    = ap (map (change_of frames)) c.if-not-swap.ensures.steps ∙ map_swap (change_of frames) sequence.steps i j low high in
    subst (λ f. WereExchanged i j (map (change_of f) c.swap.new.self.steps) tree.values) (sym same)
    (record { olds = map (change_of frames) sequence.steps; small = small frames sequence.steps; are = are_kept base sequence tree c.self.invariant; exchanged = swapped })

pub invariant_of-self-2 : goal.invariant_of-self-2
invariant_of-self-2 c =
    let base = arc_value c.self.inside.base in
    let frames = base.ship.ship.frames in
    let done = c.swap.ensures.done base.ship (aboard_first base) c.self.invariant.legal c.self.invariant.steps in
    let same : c.frames.result.now ≡ frames = c.frames.ensures.value ∙ ap (λ (p : ProfileRecord). p.ship.frames) (c.profile.ensures ∙ ap (λ (b : GroundRecord). b.ship) c.deref.ensures) in
    record {
      legal = c.swap.ensures.legal base.ship (aboard_first base) c.self.invariant.legal;
      steps = done;
      changes = c.renew_both.ensures.values ∙ (λ k. fours (map (change_of (same k)) (done k)));
    }

pub returns-clause-cost : goal.returns-clause-cost
returns-clause-cost c =
    let joins = c.renew_both.new.sums.joins in
    let long = ap (λ (l : List Op). length l) c.if-not-swap.ensures.ops ∙ length-swap c.self.inside.sequence.ops (c.args.a - 1) (c.args.b - 1) in
    subst (λ (v : Summed). CostsUpTo 2 (length v.ops) v.joins joins) c.self.view_is
    (subst (λ n. CostsUpTo 2 n c.self.inside.sums.joins joins) long c.renew_both.ensures.cost)
