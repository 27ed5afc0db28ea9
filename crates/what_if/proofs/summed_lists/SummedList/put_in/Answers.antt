use Rattle.std.proofs.Common.{◌≡◌, ◌∙◌, ◌+◌, ◌-◌, ◌/◌, ◌<◌, ◌++◌, ℕ, List, [], ◌∷◌, length, map, get_or, None, ap, subst, sym, arith}
use Rattle.std.specs.Arc.{arc_value}
use Rattle.std.specs.Bool.{OnTrue, OnFalse}
use Rattle.std.specs.List.{insert}
use Rattle.std.proofs.lemmas.List.{length-append, length-take-le}
use Rattle.std.proofs.lemmas.List.Edits.{length-insert}
use Rattle.ship_profile.specs.Record.{ProfileRecord}
use Rattle.lift_sequence.specs.Arrival.{cargo_on}
use Rattle.lift_sequence.specs.Bodies.{steps_of}
use Rattle.lift_sequence.specs.Sequence.{sequence_fault}
use Rattle.lift_sequence.proofs.States.{as_many}
use Rattle.moment_sums.specs.Kept.{Kept, none_kept}
use Rattle.port_call.specs.Grounds.{GroundRecord, aboard_first}
use Rattle.running_sums.specs.Fours.{AreOfFour, change_of, fours}
use Rattle.what_if.specs.Sessions.{Summed}
use Rattle.what_if.proofs.ChangeLemmas.{are_kept, are_of_four, as_many_fours}
use Rattle.what_if.proofs.SingleLemmas.{as_before, front_kept, renewed_behind, small_front}
use Rattle.what_if.proofs.summed_lists.SummedList.put_in.Goals as goal

pub lengthen-requires-clause-no_fewer : goal.lengthen-requires-clause-no_fewer
lengthen-requires-clause-no_fewer c = omega (arith, c.len-steps.ensures, as_many_fours (arc_value c.self.inside.base) c.self.inside.sequence c.self.inside.sums c.self.invariant)

pub lengthen-requires-clause-one_more : goal.lengthen-requires-clause-one_more
lengthen-requires-clause-one_more c = omega (arith, c.len-steps.ensures, as_many_fours (arc_value c.self.inside.base) c.self.inside.sequence c.self.inside.sums c.self.invariant)

pub lengthen-requires-clause-small : goal.lengthen-requires-clause-small
lengthen-requires-clause-small c = are_of_four (arc_value c.self.inside.base) c.self.inside.sequence c.self.inside.sums c.self.invariant

pub renew-requires-clause-long : goal.renew-requires-clause-long
renew-requires-clause-long c =
    let ops = c.self.inside.sequence.ops in
    let sums = c.self.inside.sums in
    let i = c.args.k - 1 in
    let n = (c.len-steps.result + 1) / 4 in
    let more = sums.values ++ none_kept ∷ [] in
    let viewed = ap (λ (v : Summed). length v.ops) c.self.view_is in
    let many = as_many_fours (arc_value c.self.inside.base) c.self.inside.sequence sums c.self.invariant in
    let room = length-append sums.values (none_kept ∷ []) in
    let left = ap (λ (l : List Kept). length l) c.in_ok-lengthen.ensures.values ∙ length-take-le n more (omega (arith, c.len-steps.ensures, many, room)) in
    let come = length-insert ops i c.args.op.now (omega (arith, c.requires.first, c.requires.last, viewed)) in
    let is = subst (λ b. OnTrue b (c.put_in.new.self.ops ≡ insert ops i c.args.op.now)) c.in-Ok-true.field-0-test c.in-Ok-true.ensures.ops in
    omega (arith, left, come, ap (λ l. length l) is, c.len-steps.ensures)

pub renew-requires-clause-small : goal.renew-requires-clause-small
renew-requires-clause-small c =
    let sums = c.self.inside.sums in
    subst AreOfFour (sym c.in_ok-lengthen.ensures.values) (small_front sums.values ((c.len-steps.result + 1) / 4) (are_of_four (arc_value c.self.inside.base) c.self.inside.sequence sums c.self.invariant))

pub renew-requires-clause-within : goal.renew-requires-clause-within
renew-requires-clause-within c =
    let sums = c.self.inside.sums in
    let n = (c.len-steps.result + 1) / 4 in
    let more = sums.values ++ none_kept ∷ [] in
    let many = as_many_fours (arc_value c.self.inside.base) c.self.inside.sequence sums c.self.invariant in
    let room = length-append sums.values (none_kept ∷ []) in
    let left = ap (λ (l : List Kept). length l) c.in_ok-lengthen.ensures.values ∙ length-take-le n more (omega (arith, c.len-steps.ensures, many, room)) in
    omega (arith, left)

pub invariant_of-self-2 : goal.invariant_of-self-2
invariant_of-self-2 c =
    let base = arc_value c.self.inside.base in
    let sequence = c.self.inside.sequence in
    let sums = c.self.inside.sums in
    let i = c.args.k - 1 in
    let n = (c.len-steps.result + 1) / 4 in
    let more = sums.values ++ none_kept ∷ [] in
    let frames = base.ship.ship.frames in
    let used = c.frames-frames.result.now in
    let after = c.put_in.new.self in
    let viewed = ap (λ (v : Summed). length v.ops) c.self.view_is in
    let many = as_many_fours base sequence sums c.self.invariant in
    let same : used ≡ frames = c.frames-frames.ensures.value ∙ ap (λ (p : ProfileRecord). p.ship.frames) (c.profile.ensures ∙ ap (λ (b : GroundRecord). b.ship) c.deref-3.ensures) in
    let ship = c.profile-profile.ensures ∙ ap (λ (b : GroundRecord). b.ship) c.deref.ensures in
    let arrival = c.arrival-arrival.ensures ∙ ap (λ (b : GroundRecord). b.arrival) c.deref-2.ensures in
    let legal : sequence_fault base.ship (aboard_first base) after.ops ≡ None
    = (λ j. sequence_fault (sym ship j) (cargo_on (sym arrival j)) after.ops) ∙ c.put_in.ensures.legal ((λ j. sequence_fault (ship j) (cargo_on (arrival j)) sequence.ops) ∙ c.self.invariant.legal) in
    let done : after.steps ≡ steps_of base.ship (aboard_first base) after.ops
    = c.put_in.ensures.done ((λ j. sequence_fault (ship j) (cargo_on (arrival j)) sequence.ops) ∙ c.self.invariant.legal)
    (c.self.invariant.steps ∙ (λ j. steps_of (sym ship j) (cargo_on (sym arrival j)) sequence.ops)) ∙ (λ j. steps_of (ship j) (cargo_on (arrival j)) after.ops) in
    let kept : sums.values ≡ fours (map (change_of used) sequence.steps) = are_kept base sequence sums c.self.invariant ∙ (λ k. fours (map (change_of (sym same k)) sequence.steps)) in
    let room = length-append sums.values (none_kept ∷ []) in
    let left : length c.lengthen.new.self.values ≡ n = ap (λ (l : List Kept). length l) c.in_ok-lengthen.ensures.values ∙ length-take-le n more (omega (arith, c.len-steps.ensures, many, room)) in
    let come = length-insert sequence.ops i c.args.op.now (omega (arith, c.requires.first, c.requires.last, viewed)) in
    let orders : length after.steps ≡ length after.ops = ap (λ l. length l) done ∙ as_many base.ship (aboard_first base) after.ops in
    let put = subst (λ b. OnTrue b (after.ops ≡ insert sequence.ops i c.args.op.now)) c.in-Ok-true.field-0-test c.in-Ok-true.ensures.ops in
    let long : length after.steps / 4 ≡ n = omega (arith, orders, come, ap (λ l. length l) put, c.len-steps.ensures) in
    let before : (k : ℕ) → k < i / 4 → get_or c.lengthen.new.self.values k none_kept ≡ get_or (fours (map (change_of used) sequence.steps)) k none_kept
    = λ k low. ap (λ (l : List Kept). get_or l k none_kept) c.in_ok-lengthen.ensures.values
    ∙ front_kept sums.values none_kept n k (omega (arith, low, c.requires.first, c.requires.last, viewed, c.len-steps.ensures)) (omega (arith, low, c.requires.first, c.requires.last, viewed, many))
    ∙ ap (λ (l : List Kept). get_or l k none_kept) kept in
    let is = renewed_behind used sequence.steps after.steps i n c.put_in.ensures.front long c.lengthen.new.self.values c.renew.new.self.values left before c.renew.ensures.values in
    record {
      legal = legal;
      steps = done;
      changes = is ∙ (λ k. fours (map (change_of (same k)) (done k)));
    }

pub shorten-requires : goal.shorten-requires
shorten-requires c =
    let sums = c.self.inside.sums in
    let n = (c.len-steps.result + 1) / 4 in
    let more = sums.values ++ none_kept ∷ [] in
    let many = as_many_fours (arc_value c.self.inside.base) c.self.inside.sequence sums c.self.invariant in
    let room = length-append sums.values (none_kept ∷ []) in
    let left = ap (λ (l : List Kept). length l) c.in_ok-lengthen.ensures.values ∙ length-take-le n more (omega (arith, c.len-steps.ensures, many, room)) in
    omega (arith, left)

pub shorten-requires-in-Err : goal.shorten-requires-in-Err
shorten-requires-in-Err c =
    let sums = c.self.inside.sums in
    let n = (c.len-steps.result + 1) / 4 in
    let more = sums.values ++ none_kept ∷ [] in
    let many = as_many_fours (arc_value c.self.inside.base) c.self.inside.sequence sums c.self.invariant in
    let room = length-append sums.values (none_kept ∷ []) in
    let left = ap (λ (l : List Kept). length l) c.in_ok-lengthen.ensures.values ∙ length-take-le n more (omega (arith, c.len-steps.ensures, many, room)) in
    omega (arith, left)

pub invariant_of-self-in-Ok-false : goal.invariant_of-self-in-Ok-false
invariant_of-self-in-Ok-false c =
    let base = arc_value c.self.inside.base in
    let sequence = c.self.inside.sequence in
    let sums = c.self.inside.sums in
    let steps = c.len-steps.result in
    let many = as_many_fours base sequence sums c.self.invariant in
    let still = subst (λ b. OnFalse b (c.put_in.new.self ≡ sequence)) c.in-Ok-false.field-0-test c.in-Ok-false.ensures.same in
    as_before base sequence c.put_in.new.self sums c.lengthen.new.self c.shorten.new.self ((steps + 1) / 4) ((steps + 1 - 1) / 4) c.self.invariant still c.in_ok-lengthen.ensures.values c.shorten.ensures.values
    (omega (arith, many, c.len-steps.ensures)) (omega arith)

pub invariant_of-self-in-Err : goal.invariant_of-self-in-Err
invariant_of-self-in-Err c =
    let base = arc_value c.self.inside.base in
    let sequence = c.self.inside.sequence in
    let sums = c.self.inside.sums in
    let steps = c.len-steps.result in
    let many = as_many_fours base sequence sums c.self.invariant in
    as_before base sequence c.put_in.new.self sums c.lengthen.new.self c.shorten-in-Err.new.self ((steps + 1) / 4) ((steps + 1 - 1) / 4) c.self.invariant c.in-Err.ensures.before c.in_ok-lengthen.ensures.values c.shorten-in-Err.ensures.values
    (omega (arith, many, c.len-steps.ensures)) (omega arith)
