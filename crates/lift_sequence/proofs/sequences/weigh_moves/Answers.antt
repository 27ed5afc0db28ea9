use Rattle.std.proofs.Common.{◌≡◌, ◌∙◌, ◌+◌, ◌++◌, ap, arith, refl, length, set, take, drop}
use Rattle.lift_sequence.specs.Follow.{moves, steps_weighed}
use Rattle.lift_sequence.proofs.WalkLemmas.{all_turned, one_turn, turned, turned_by, turned_long}
use Rattle.lift_sequence.proofs.sequences.weigh_moves.Goals as goal

pub loop-place-preserved : goal.loop-place-preserved
loop-place-preserved c =
    let ops = c.args.ops.now in
    let now = c.loop-place.steps in
    let place = c.loop-place.place in
    let cell = c.loop-place.cell in
    let op = c.index-ops-place.result in
    let long : length now ≡ length ops = c.loop-place.invariant.as_many in
    let turns : set now place c.weigh_move.new.step ≡ turned c.args.kg (moves cell op) now place =
    turned_by c.args.kg (moves cell op) now _ place c.index-steps-place.result c.weigh_move.new.step (omega (arith, long, c.loop-place-test.true)) refl
    c.weigh_move.ensures in
    record {
      as_many = ap length turns ∙ turned_long c.args.kg (moves cell op) now place ∙ long;
      comes_to = (λ i. take (place + 1) (turns i) ++ steps_weighed c.args.kg (c.next_cell-cell.ensures i) (drop (place + 1) ops) (drop (place + 1) (turns i)))
          ∙ one_turn c.args.kg cell ops now place op c.loop-place-test.true long c.index-ops-place.is ∙ c.loop-place.invariant.comes_to;
    }

pub returns-clause-steps : goal.returns-clause-steps
returns-clause-steps c =
    all_turned c.args.kg c.loop-place.cell c.args.ops.now c.loop-place.steps c.loop-place.place c.loop-place-test.false c.loop-place.invariant.as_many
    ∙ c.loop-place.invariant.comes_to
