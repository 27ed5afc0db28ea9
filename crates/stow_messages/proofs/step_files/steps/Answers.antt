use Rattle.std.proofs.Common.{◌≡◌, Ok, rules}
use Rattle.std.proofs.lemmas.Result.{IfOk-weaker}
use Rattle.stow_messages.specs.Steps.{steps_of}
use Rattle.stow_messages.proofs.StepWalks.{are_steps}
use Rattle.stow_messages.proofs.step_files.steps.Goals as goal

pub returns-clause-once : goal.returns-clause-once
returns-clause-once c = IfOk-weaker c.complete.result _ _ (λ rows e.
    let all : steps_of c.args.lifts c.args.bytes.now ≡ Ok rows.items = search rules in
    (are_steps c.args.lifts c.args.bytes.now rows.items all).once) c.complete.ensures.ok

pub returns-clause-meaning : goal.returns-clause-meaning
returns-clause-meaning c = IfOk-weaker c.complete.result _ _ (λ rows e.
    let all : steps_of c.args.lifts c.args.bytes.now ≡ Ok rows.items = search rules in
    are_steps c.args.lifts c.args.bytes.now rows.items all) c.complete.ensures.ok
