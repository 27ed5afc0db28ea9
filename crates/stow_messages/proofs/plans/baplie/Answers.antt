use Rattle.std.proofs.Common.{◌≡◌, Ok, rules}
use Rattle.std.proofs.lemmas.Result.{IfOk-weaker}
use Rattle.stow_messages.specs.Items.{bay_plan}
use Rattle.stow_messages.proofs.MessageLemmas.{are_items}
use Rattle.stow_messages.proofs.plans.baplie.Goals as goal

pub returns-in-Ok-clause-few : goal.returns-in-Ok-clause-few
returns-in-Ok-clause-few c = IfOk-weaker c.items_of.result _ _ (λ items e.
    let all : bay_plan c.args.bytes.now ≡ Ok items.items = search rules in
    (are_items c.args.bytes.now items.items all).3) c.items_of.ensures.ok

pub returns-in-Ok-clause-meaning : goal.returns-in-Ok-clause-meaning
returns-in-Ok-clause-meaning c = IfOk-weaker c.items_of.result _ _ (λ items e.
    let all : bay_plan c.args.bytes.now ≡ Ok items.items = search rules in
    are_items c.args.bytes.now items.items all) c.items_of.ensures.ok
