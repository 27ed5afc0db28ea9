use Rattle.std.proofs.Common.{◌∙◌, ap}
use Rattle.run_files.specs.Statuses.{status_on}
use Rattle.view_program.proofs.serving.page_to.Goals as goal

pub returns-in-Ok-put-clause-shown : goal.returns-in-Ok-put-clause-shown
returns-in-Ok-put-clause-shown g c =
    let made = c.in-Ok.ensures.made in
    let case = c.in-Ok.both.0.worked.call in
    let status = c.status_on.ensures.value ∙ ap status_on c.first.ensures in
    (c.as_str.result.now, (made.0, made.1, (case, made.2, status, tt)), c.in-Ok-put.ensures.put)
