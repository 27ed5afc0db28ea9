use Rattle.std.proofs.Common.{◌∙◌, ◌+◌, ◌<◌, ap, arith, length, refl, sym}
use Rattle.std.proofs.lemmas.List.Edits.{length-swap}
use Rattle.lift_sequence.proofs.ShiftLemmas.{moved_here, moved_on}
use Rattle.lift_sequence.proofs.carrying.carry_on.Goals as goal

pub loop-place-init : goal.loop-place-init
loop-place-init g c =
    let low : c.args.from < length c.args.items.now.items = omega (arith, c.requires.order, c.requires.within) in
    record { long = refl; stands = sym (moved_here c.args.items.now.items c.args.from low) }

pub loop-place-preserved : goal.loop-place-preserved
loop-place-preserved g c =
    let old = c.args.items.now.items in
    let now = c.loop-place.items.items in
    let place = c.loop-place.place in
    let low : c.args.from < length old = omega (arith, c.requires.order, c.requires.within) in
    let high : place + 1 < length old = omega (arith, c.loop-place-test.true, c.requires.within) in
    record {
      long = ap length c.swap.ensures.items ∙ length-swap now place (place + 1) ∙ c.loop-place.invariant.long;
      stands = moved_on old now _ c.args.from place low high c.loop-place.invariant.stands c.swap.ensures.items;
    }
