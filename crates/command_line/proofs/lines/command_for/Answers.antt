use Rattle.std.proofs.Common.{◌++◌, ◌∷◌, [], rules, codes, refl, subst, List}
use Rattle.std.proofs.lemmas.Result.{IfOk-weaker}
use Rattle.clap.specs.Words.{Rule}
use Rattle.command_line.specs.Chains.{TakesRules}
use Rattle.command_line.specs.Words.{bare, edits_word, number_option, option_of, plain_words}
use Rattle.command_line.proofs.Chain.{as_option, one_more}
use Rattle.command_line.proofs.CheckWords.{in_order}
use Rattle.command_line.proofs.lines.command_for.Goals as goal

pub returns : goal.returns
returns c =
    let app = bare c.args.task in
    let words = plain_words ++ edits_word c.args.task in
    let steps = option_of (codes "steps") in
    let workers = number_option (codes "workers") 1 16 in
    let chunk = number_option (codes "chunk") 1 200_000 in
    let one = one_more app words steps c.in_ok-with_edits.field-0 c.in_ok-arg.field-0 c.option.result
    (as_option steps c.option.result (search rules) c.option.ensures.plain c.option.ensures.one refl) c.in_ok-with_edits.ensures c.in_ok-arg.ensures in
    let two = one_more app (words ++ steps ∷ []) workers c.in_ok-arg.field-0 c.in_ok-arg-2.field-0 c.workers.result
    (as_option workers c.workers.result c.workers.ensures.rule c.workers.ensures.plain c.workers.ensures.one refl) one c.in_ok-arg-2.ensures in
    IfOk-weaker c.arg-3.result _ _ (λ command added. subst (λ (rules : List Rule). TakesRules app rules command) (in_order c.args.task steps workers chunk)
    (one_more app ((words ++ steps ∷ []) ++ workers ∷ []) chunk c.in_ok-arg-2.field-0 command c.chunk.result
    (as_option chunk c.chunk.result c.chunk.ensures.rule c.chunk.ensures.plain c.chunk.ensures.one refl) two added)) c.arg-3.ensures
