use Rattle.std.proofs.Common.{◌≡◌, ◌∙◌, ◌<◌, false, get_or, length, rules}
use Rattle.lift_sequence.specs.Independent.{fills}
use Rattle.lift_sequence.proofs.HeldLemmas.{before_on}
use Rattle.lift_sequence.proofs.passing.held_before.Goals as goal

pub loop-place-preserved : goal.loop-place-preserved
loop-place-preserved c =
    let ops = c.args.ops.now in
    let place = c.loop-place.place in
    let op = c.index-ops-place.result in
    let within : place < length ops = search rules in
    let fills_not : fills (get_or ops place op) c.args.name.now ≡ false = search rules in
    c.loop-place.invariant ∙ before_on c.args.name.now ops c.args.steps.now place op (record { out = c.args.held; put = c.args.held }) c.args.held within c.requires fills_not
