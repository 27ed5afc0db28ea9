use Rattle.std.proofs.Common.{suc, ◌*◌, arith}
use Rattle.running_sums.proofs.ChangeLemmas.{added_size, four_is, step_at, step_size}
use Rattle.running_sums.proofs.fours.set_four.Goals as goal

pub add_counted-requires-2 : goal.add_counted-requires-2
add_counted-requires-2 c =
    let one = added_size c.args.frames.now c.step-2.result c.set_step.new.self c.add_counted.new.sum 2 c.set_step.ensures.size (omega arith) c.add_counted.ensures.value in
    omega (arith, one, step_size c.args.frames.now c.step-3.result)

pub add_counted-requires-3 : goal.add_counted-requires-3
add_counted-requires-3 c =
    let one = added_size c.args.frames.now c.step-2.result c.set_step.new.self c.add_counted.new.sum 2 c.set_step.ensures.size (omega arith) c.add_counted.ensures.value in
    let two = added_size c.args.frames.now c.step-3.result c.add_counted.new.sum c.add_counted-2.new.sum 4 one (omega arith) c.add_counted-2.ensures.value in
    omega (arith, two, step_size c.args.frames.now c.step-4.result)

pub returns-clause-value : goal.returns-clause-value
returns-clause-value c =
    let frames = c.args.frames.now in
    let steps = c.args.sequence.now.steps in
    let first = 4 * c.args.four in
    four_is frames steps c.args.four c.step.result c.step-2.result c.step-3.result c.step-4.result c.set_step.new.self c.add_counted.new.sum c.add_counted-2.new.sum c.add_counted-3.new.sum
    (omega (arith, c.requires.within, c.facts.ensures.long))
    (step_at frames steps _ first c.step.result (omega arith) c.step.ensures) (step_at frames steps _ (suc first) c.step-2.result (omega arith) c.step-2.ensures)
    (step_at frames steps _ (suc (suc first)) c.step-3.result (omega arith) c.step-3.ensures) (step_at frames steps _ (suc (suc (suc first))) c.step-4.result (omega arith) c.step-4.ensures)
    c.set_step.ensures.kept c.add_counted.ensures.value c.add_counted-2.ensures.value c.add_counted-3.ensures.value
