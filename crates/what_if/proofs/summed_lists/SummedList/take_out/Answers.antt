use Rattle.std.proofs.Common.{◌≡◌, ◌∙◌, ◌-◌, ◌/◌, ◌<◌, ℕ, List, length, map, get_or, ap, subst, sym, arith}
use Rattle.std.specs.Arc.{arc_value}
use Rattle.std.proofs.lemmas.List.{get_or-take, length-take-le}
use Rattle.std.proofs.lemmas.List.Edits.{length-remove}
use Rattle.ship_profile.specs.Record.{ProfileRecord}
use Rattle.lift_sequence.proofs.States.{as_many}
use Rattle.moment_sums.specs.Kept.{Kept, none_kept}
use Rattle.port_call.specs.Grounds.{GroundRecord, aboard_first}
use Rattle.running_sums.specs.Fours.{AreOfFour, change_of, fours}
use Rattle.running_sums.proofs.FourLemmas.{of_four_take}
use Rattle.what_if.specs.Sessions.{Summed}
use Rattle.what_if.proofs.ChangeLemmas.{are_kept, are_of_four, as_many_fours}
use Rattle.what_if.proofs.SingleLemmas.{renewed_behind}
use Rattle.what_if.proofs.summed_lists.SummedList.take_out.Goals as goal

pub shorten-requires : goal.shorten-requires
shorten-requires c = omega (arith, c.len-steps.ensures, as_many_fours (arc_value c.self.inside.base) c.self.inside.sequence c.self.inside.sums c.self.invariant)

pub renew-requires-clause-long : goal.renew-requires-clause-long
renew-requires-clause-long c =
    let ops = c.self.inside.sequence.ops in
    let sums = c.self.inside.sums in
    let i = c.args.k - 1 in
    let n = (c.len-steps.result - 1) / 4 in
    let viewed = ap (λ (v : Summed). length v.ops) c.self.view_is in
    let many = as_many_fours (arc_value c.self.inside.base) c.self.inside.sequence sums c.self.invariant in
    let left = ap (λ (l : List Kept). length l) c.shorten.ensures.values ∙ length-take-le n sums.values (omega (arith, c.len-steps.ensures, many)) in
    let gone = length-remove ops i (omega (arith, c.requires.first, c.requires.last, viewed)) in
    omega (arith, left, gone, ap (λ l. length l) c.if-not-take_out.ensures.ops, c.len-steps.ensures)

pub renew-requires-clause-small : goal.renew-requires-clause-small
renew-requires-clause-small c =
    let sums = c.self.inside.sums in
    subst AreOfFour (sym c.shorten.ensures.values) (of_four_take ((c.len-steps.result - 1) / 4) sums.values (are_of_four (arc_value c.self.inside.base) c.self.inside.sequence sums c.self.invariant))

pub renew-requires-clause-within : goal.renew-requires-clause-within
renew-requires-clause-within c =
    let sums = c.self.inside.sums in
    let n = (c.len-steps.result - 1) / 4 in
    let many = as_many_fours (arc_value c.self.inside.base) c.self.inside.sequence sums c.self.invariant in
    let left = ap (λ (l : List Kept). length l) c.shorten.ensures.values ∙ length-take-le n sums.values (omega (arith, c.len-steps.ensures, many)) in
    omega (arith, left)

pub invariant_of-self-2 : goal.invariant_of-self-2
invariant_of-self-2 c =
    let base = arc_value c.self.inside.base in
    let sequence = c.self.inside.sequence in
    let sums = c.self.inside.sums in
    let i = c.args.k - 1 in
    let n = (c.len-steps.result - 1) / 4 in
    let frames = base.ship.ship.frames in
    let used = c.frames-frames.result.now in
    let after = c.take_out.new.self in
    let viewed = ap (λ (v : Summed). length v.ops) c.self.view_is in
    let many = as_many_fours base sequence sums c.self.invariant in
    let same : used ≡ frames = c.frames-frames.ensures.value ∙ ap (λ (p : ProfileRecord). p.ship.frames) (c.profile.ensures ∙ ap (λ (b : GroundRecord). b.ship) c.deref.ensures) in
    let done = c.take_out.ensures.done base.ship (aboard_first base) c.self.invariant.legal c.self.invariant.steps in
    let kept : sums.values ≡ fours (map (change_of used) sequence.steps) = are_kept base sequence sums c.self.invariant ∙ (λ k. fours (map (change_of (sym same k)) sequence.steps)) in
    let left : length c.shorten.new.self.values ≡ n = ap (λ (l : List Kept). length l) c.shorten.ensures.values ∙ length-take-le n sums.values (omega (arith, c.len-steps.ensures, many)) in
    let gone = length-remove sequence.ops i (omega (arith, c.requires.first, c.requires.last, viewed)) in
    let orders : length after.steps ≡ length after.ops = ap (λ l. length l) done ∙ as_many base.ship (aboard_first base) after.ops in
    let long : length after.steps / 4 ≡ n = omega (arith, orders, gone, ap (λ l. length l) c.if-not-take_out.ensures.ops, c.len-steps.ensures) in
    let before : (k : ℕ) → k < i / 4 → get_or c.shorten.new.self.values k none_kept ≡ get_or (fours (map (change_of used) sequence.steps)) k none_kept
    = λ k low. ap (λ (l : List Kept). get_or l k none_kept) c.shorten.ensures.values
    ∙ get_or-take n sums.values k none_kept (omega (arith, low, c.requires.first, c.requires.last, viewed, c.len-steps.ensures)) ∙ ap (λ (l : List Kept). get_or l k none_kept) kept in
    let is = renewed_behind used sequence.steps after.steps i n c.take_out.ensures.front long c.shorten.new.self.values c.renew.new.self.values left before c.renew.ensures.values in
    record {
      legal = c.take_out.ensures.legal base.ship (aboard_first base) c.self.invariant.legal;
      steps = done;
      changes = is ∙ (λ k. fours (map (change_of (same k)) (done k)));
    }
