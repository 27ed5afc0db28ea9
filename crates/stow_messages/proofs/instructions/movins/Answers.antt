use Rattle.std.proofs.Common.{◌≡◌, Ok, rules}
use Rattle.std.proofs.lemmas.Result.{IfOk-weaker}
use Rattle.stow_messages.specs.Lifts.{movement_instruction}
use Rattle.stow_messages.proofs.MessageLemmas.{are_lifts}
use Rattle.stow_messages.proofs.instructions.movins.Goals as goal

pub returns-in-Ok-clause-few : goal.returns-in-Ok-clause-few
returns-in-Ok-clause-few c = IfOk-weaker c.lifts_of.result _ _ (λ lifts e.
    let all : movement_instruction c.args.bytes.now ≡ Ok lifts.items = search rules in
    (are_lifts c.args.bytes.now lifts.items all).3) c.lifts_of.ensures.ok

pub returns-in-Ok-clause-meaning : goal.returns-in-Ok-clause-meaning
returns-in-Ok-clause-meaning c = IfOk-weaker c.lifts_of.result _ _ (λ lifts e.
    let all : movement_instruction c.args.bytes.now ≡ Ok lifts.items = search rules in
    are_lifts c.args.bytes.now lifts.items all) c.lifts_of.ensures.ok
