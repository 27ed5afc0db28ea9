use Rattle.std.proofs.Common.{◌∙◌, ap, subst, sym}
use Rattle.run_files.specs.Statuses.{status_on}
use Rattle.view_program.specs.Shown.{IsSummary}
use Rattle.view_program.proofs.serving.summary_to.Goals as goal

pub returns-in-Ok-put-clause-shown : goal.returns-in-Ok-put-clause-shown
returns-in-Ok-put-clause-shown g c =
    let made = c.in-Ok.ensures.made in
    let case = c.in-Ok.both.0.worked.call in
    let status = c.status_on.ensures.value ∙ ap status_on c.first.ensures in
    let text = subst (IsSummary case) (sym c.as_str.ensures.value) c.in-Ok-summary_text.ensures in
    (c.as_str.result.now, (made.0, made.1, (case, made.2, status, text)), c.in-Ok-put.ensures.put)
