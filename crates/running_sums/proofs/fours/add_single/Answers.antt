use Rattle.std.proofs.Common.{◌<◌, length, ap, arith}
use Rattle.moment_sums.specs.Kept.{size_of}
use Rattle.running_sums.proofs.ChangeLemmas.{one_more, prefix_size, step_size}
use Rattle.running_sums.proofs.fours.add_single.Goals as goal

pub add_counted-requires : goal.add_counted-requires
add_counted-requires c =
    let place = c.loop-place.place in
    let steps = c.args.sequence.now.steps in
    let within : place < length steps = omega (arith, c.loop-place-test.true, c.requires.within, c.facts.ensures.long) in
    let size = prefix_size c.args.frames.now steps place (omega (arith, within)) (omega (arith, within, c.facts.ensures.few, c.facts.ensures.long)) in
    omega (arith, size, ap size_of c.loop-place.invariant.value, step_size c.args.frames.now c.step.result, within, c.facts.ensures.few, c.facts.ensures.long)

pub loop-place-preserved : goal.loop-place-preserved
loop-place-preserved c =
    let place = c.loop-place.place in
    let steps = c.args.sequence.now.steps in
    let within : place < length steps = omega (arith, c.loop-place-test.true, c.requires.within, c.facts.ensures.long) in
    record {
      value = one_more c.args.frames.now steps place c.step.result c.loop-place.sum c.add_counted.new.sum within c.step.ensures c.loop-place.invariant.value c.add_counted.ensures.value;
      from = omega (arith, c.loop-place.invariant.from);
      within = omega (arith, c.loop-place-test.true);
      grows = omega (arith, c.loop-place.invariant.grows, c.add_counted.ensures.bound);
      cost = omega (arith, c.loop-place.invariant.cost, c.add_counted.ensures.bound);
      counted = λ low. omega (arith, c.loop-place.invariant.counted (omega (arith, low)), c.add_counted.ensures.one_more, low);
    }

pub returns-clause-counted : goal.returns-clause-counted
returns-clause-counted c = λ low. omega (arith, c.loop-place.invariant.counted (omega (arith, low, c.loop-place-test.false)), c.loop-place-test.false, c.loop-place.invariant.from)
