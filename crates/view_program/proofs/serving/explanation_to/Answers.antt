use Rattle.std.proofs.Common.{◌∙◌, ap, subst, sym}
use Rattle.run_files.specs.Statuses.{status_on}
use Rattle.view_program.specs.Shown.{IsExplanation}
use Rattle.view_program.proofs.serving.explanation_to.Goals as goal

pub returns-in-Ok-put-clause-shown : goal.returns-in-Ok-put-clause-shown
returns-in-Ok-put-clause-shown g c =
    let case = c.in-Ok.seen.worked.call in
    let status = c.status_on.ensures.value ∙ ap status_on c.first.ensures in
    let text = subst (IsExplanation c.args.line.condition case) (sym c.as_str.ensures.value) c.in-Ok-explanation_for.ensures.text in
    (c.as_str.result.now, (case, c.in-Ok.ensures.made, status, text), c.in-Ok-put.ensures.put)
