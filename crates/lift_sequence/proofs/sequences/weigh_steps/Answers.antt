use Rattle.std.proofs.Common.{◌≡◌, ◌∙◌, ◌+◌, ◌++◌, Some, ap, arith, drop, set, sym, take}
use Rattle.std.specs.Prelude.{option_and_then}
use Rattle.std.proofs.lemmas.Option.{slice_get-get_or}
use Rattle.units_core.specs.Steps.{step_weighed}
use Rattle.lift_sequence.specs.Follow.{loaded_at, loaded_cell, steps_weighed}
use Rattle.lift_sequence.proofs.WalkLemmas.{come_to}
use Rattle.lift_sequence.proofs.sequences.weigh_steps.Goals as goal

pub returns-clause-steps : goal.returns-clause-steps
returns-clause-steps c =
    let ops = c.args.ops.now in
    let old = c.args.steps.now in
    let i = c.args.place in
    let op = c.index-ops-place.result in
    let step = c.index-steps-place.result in
    let first = set old i c.with_weight.result in
    let cell : c.loaded_cell.result ≡ loaded_at ops i =
    c.loaded_cell.ensures ∙ sym (ap (option_and_then loaded_cell) (slice_get-get_or ops i op c.requires.within ∙ ap (λ o. Some o) (sym c.index-ops-place.is))) in
    come_to c.args.kg i ops old first c.weigh_moves.new.steps step (omega (arith, c.requires.within, c.requires.as_many)) c.index-steps-place.is
    (ap (set old i) (c.with_weight.ensures ∙ ap (step_weighed c.args.kg) (sym c.index-steps-place.is)))
    (c.weigh_moves.ensures.steps ∙ (λ j. take (i + 1) first ++ steps_weighed c.args.kg (cell j) (drop (i + 1) ops) (drop (i + 1) first)))
