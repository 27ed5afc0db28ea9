use Rattle.std.proofs.Common.{◌∷◌, [], rules, codes}
use Rattle.std.proofs.lemmas.Result.{IfOk-weaker}
use Rattle.command_line.specs.Words.{bare, positional}
use Rattle.command_line.proofs.Chain.{as_word, none_yet, one_more}
use Rattle.command_line.proofs.lines.with_words.Goals as goal

pub returns : goal.returns
returns c =
    let start = c.bare_command.ensures in
    let app = bare c.args.task in
    let folder = positional (codes "FOLDER") in
    let baplie = positional (codes "BAPLIE") in
    let movins = positional (codes "MOVINS") in
    let none = none_yet app c.bare_command.result start.app start.args start.groups start.local start.negates in
    let one = one_more app [] folder c.bare_command.result c.in_ok-arg.field-0 c.word.result
    (as_word folder c.word.result (search rules) c.word.ensures.plain c.word.ensures.one c.word.ensures.value) none c.in_ok-arg.ensures in
    let two = one_more app (folder ∷ []) baplie c.in_ok-arg.field-0 c.in_ok-arg-2.field-0 c.word-2.result
    (as_word baplie c.word-2.result (search rules) c.word-2.ensures.plain c.word-2.ensures.one c.word-2.ensures.value) one c.in_ok-arg-2.ensures in
    IfOk-weaker c.arg-3.result _ _ (λ command added. one_more app (folder ∷ baplie ∷ []) movins c.in_ok-arg-2.field-0 command c.word-3.result
    (as_word movins c.word-3.result (search rules) c.word-3.ensures.plain c.word-3.ensures.one c.word-3.ensures.value) two added) c.arg-3.ensures
