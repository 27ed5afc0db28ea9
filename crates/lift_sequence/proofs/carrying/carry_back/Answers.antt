use Rattle.std.proofs.Common.{◌≡◌, ◌∙◌, ◌+◌, ◌-◌, ◌<◌, ap, arith, length, refl, sym}
use Rattle.std.proofs.lemmas.List.Edits.{length-swap}
use Rattle.lift_sequence.proofs.ShiftLemmas.{moved_back, moved_here}
use Rattle.lift_sequence.proofs.carrying.carry_back.Goals as goal

pub loop-place-init : goal.loop-place-init
loop-place-init g c = record {
  within = omega arith;
  reached = c.requires.order;
  long = refl;
  stands = sym (moved_here c.args.items.now.items c.args.from c.requires.within);
}

pub loop-place-preserved : goal.loop-place-preserved
loop-place-preserved g c =
    let old = c.args.items.now.items in
    let now = c.loop-place.items.items in
    let place = c.loop-place.place in
    let there : place < length old = omega (arith, c.loop-place.invariant.within, c.requires.within) in
    let above : place ≡ (place - 1) + 1 = omega (arith, c.loop-place-test.true) in
    record {
      within = omega (arith, c.loop-place.invariant.within);
      reached = omega (arith, c.loop-place-test.true);
      long = ap length c.swap.ensures.items ∙ length-swap now (place - 1) (place - 1 + 1) ∙ c.loop-place.invariant.long;
      stands = moved_back old now _ c.args.from place (place - 1) c.requires.within there above c.loop-place.invariant.stands c.swap.ensures.items;
    }
