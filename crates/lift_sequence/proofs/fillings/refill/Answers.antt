use Rattle.std.proofs.Common.{◌≡◌, ◌∙◌, ◌++◌, ◌+◌, drop, get_or, List, refl, set, take}
use Rattle.units_core.specs.declared.steps.Step.{Step}
use Rattle.lift_sequence.specs.Singles.{handed}
use Rattle.lift_sequence.proofs.FillingLemmas.{refilled_is, still_elsewhere}
use Rattle.lift_sequence.proofs.fillings.refill.Goals as goal

pub returns-clause-steps : goal.returns-clause-steps
returns-clause-steps c =
    let steps : List Step = c.args.steps.now in
    let place = c.args.place in
    let put = c.args.put.now in
    let found = c.index-steps-place.result in
    let now : c.set_put.new.step ≡ record { out = (get_or steps place found).out; put = put } = c.set_put.ensures in
    c.hand_on.ensures.steps
    ∙ (λ j. take (place + 1) (set steps place (now j)) ++ handed c.args.name.now put (drop (place + 1) c.args.ops.now) (drop (place + 1) (set steps place (now j))))
    ∙ refilled_is c.args.name.now put c.args.ops.now steps place (place + 1) found c.requires.within c.requires.as_many refl

pub returns-clause-others : goal.returns-clause-others
returns-clause-others c = λ k not_here not_next. c.hand_on.ensures.others k not_next ∙ still_elsewhere c.args.steps.now c.args.place k c.set_put.new.step not_here
