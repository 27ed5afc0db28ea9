use Rattle.std.proofs.Common.{◌≡◌, ◌∙◌, ◌+◌, ◌<◌, ap, drop, false, get_or, length, rules, true}
use Rattle.lift_sequence.specs.Independent.{fills}
use Rattle.lift_sequence.specs.Singles.{held_behind}
use Rattle.lift_sequence.proofs.HeldLemmas.{behind_here, behind_on}
use Rattle.lift_sequence.proofs.passing.held_behind.Goals as goal
use Rattle.lift_sequence.proofs.passing.held_behind.Goals.{then-fills, else-fills}

pub loop-place-preserved : goal.loop-place-preserved
loop-place-preserved c =
    let ops = c.args.ops.now in
    let steps = c.args.steps.now in
    let name = c.args.name.now in
    let place = c.loop-place.place in
    let op = c.index-ops-place.result in
    let within : place < length ops = search rules in
    c.loop-place.invariant ∙ (elim c.if-fills.branch [
      | then-fills w ↦
          let fills_it : fills (get_or ops place op) name ≡ true = search rules in
          behind_here name ops steps place op w.index-steps-place.result c.loop-place.held within c.requires fills_it
          ∙ ap (λ v. held_behind name v (drop (place + 1) ops) (drop (place + 1) steps)) (search rules)
      | else-fills w ↦
          let fills_not : fills (get_or ops place op) name ≡ false = search rules in
          behind_on name ops steps place op (record { out = c.args.held; put = c.args.held }) c.loop-place.held within c.requires fills_not
          ∙ ap (λ v. held_behind name v (drop (place + 1) ops) (drop (place + 1) steps)) (search rules)
    ])
