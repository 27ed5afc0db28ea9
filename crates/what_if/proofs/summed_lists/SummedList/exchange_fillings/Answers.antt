use Rattle.std.proofs.Common.{◌≡◌, ◌∙◌, ◌-◌, ◌∷◌, [], ℕ, List, length, map, ap, subst, sym}
use Rattle.std.specs.Arc.{arc_value}
use Rattle.std.proofs.lemmas.List.Edits.{length-swap}
use Rattle.ship_profile.specs.Record.{ProfileRecord}
use Rattle.lift_sequence.specs.declared.operations.Op.{Op}
use Rattle.lift_sequence.proofs.States.{as_many}
use Rattle.port_call.specs.Grounds.{GroundRecord, aboard_first}
use Rattle.running_sums.specs.Fours.{LackPlaces, change_of, fours}
use Rattle.what_if.proofs.ChangeLemmas.{are_kept, are_of_four, as_many_steps}
use Rattle.what_if.proofs.FillingLemmas.{lack_but}
use Rattle.what_if.proofs.summed_lists.SummedList.exchange_fillings.Goals as goal

pub renew_places-requires-clause-small : goal.renew_places-requires-clause-small
renew_places-requires-clause-small c = are_of_four (arc_value c.self.inside.base) c.self.inside.sequence c.self.inside.sums c.self.invariant

pub renew_places-requires-clause-lack : goal.renew_places-requires-clause-lack
renew_places-requires-clause-lack c =
    let base = arc_value c.self.inside.base in
    let frames = base.ship.ship.frames in
    let sequence = c.self.inside.sequence in
    let sums = c.self.inside.sums in
    let after = c.swap_fillings.new.self in
    let i = c.args.a - 1 in
    let j = c.args.b - 1 in
    let places : List ℕ = i ∷ j ∷ c.in-Some.one ∷ c.in-Some.other ∷ [] in
    let same : c.frames.result.now ≡ frames = c.frames.ensures.value ∙ ap (λ (p : ProfileRecord). p.ship.frames) (c.profile.ensures ∙ ap (λ (b : GroundRecord). b.ship) c.deref.ensures) in
    let done = c.swap_fillings.ensures.done base.ship (aboard_first base) c.self.invariant.legal c.self.invariant.steps in
    let orders : length after.ops ≡ length sequence.ops = ap (λ (l : List Op). length l) c.in-Some.ensures.ops ∙ length-swap sequence.ops i j in
    let long : length after.steps ≡ length sequence.steps = ap (λ l. length l) done ∙ as_many base.ship (aboard_first base) after.ops ∙ orders ∙ sym (as_many_steps base sequence sums c.self.invariant) in
    subst (λ f. LackPlaces places (fours (map (change_of f) after.steps)) sums.values) (sym same)
    (lack_but frames sequence.steps after.steps sums.values places long (are_kept base sequence sums c.self.invariant)
    (λ k other. c.in-Some.ensures.others k other.0 other.1.0 other.1.1.0 other.1.1.1.0))
