use Rattle.std.proofs.Common.{◌≡◌, ◌++◌, rules, codes, subst, sym}
use Rattle.std.proofs.lemmas.Result.{IfOk-weaker}
use Rattle.command_line.specs.Chains.{TakesRules}
use Rattle.command_line.specs.Words.{bare, edits_word, plain_words, positional}
use Rattle.command_line.specs.declared.lines.Task.{Task}
use Rattle.command_line.specs.declared.lines.Task.TheVariants.{WhatIf}
use Rattle.command_line.proofs.Chain.{as_word, one_more}
use Rattle.command_line.proofs.lines.with_edits.Goals as goal

pub returns-in-WhatIf : goal.returns-in-WhatIf
returns-in-WhatIf c =
    let edits = positional (codes "EDITS") in
    let is : c.args.task ≡ WhatIf = search rules in
    IfOk-weaker c.arg.result _ _ (λ command added. subst (λ (task : Task). TakesRules (bare c.args.task) (plain_words ++ edits_word task) command) (sym is)
    (one_more (bare c.args.task) plain_words edits c.in_ok-command.command command c.word.result
    (as_word edits c.word.result (search rules) c.word.ensures.plain c.word.ensures.one c.word.ensures.value) c.in_ok-command.ensures added)) c.arg.ensures
