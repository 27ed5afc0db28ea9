use Rattle.std.proofs.Common.{◌∙◌, ap, subst}
use Rattle.port_call.specs.Cases.{CaseRecord}
use Rattle.run_files.specs.Statuses.{status_on}
use Rattle.view_program.specs.Shown.{IsTable, first_in}
use Rattle.view_program.proofs.serving.table_to.Goals as goal

pub returns-in-Ok-put_table-clause-shown : goal.returns-in-Ok-put_table-clause-shown
returns-in-Ok-put_table-clause-shown g c =
    let shown = c.in-Ok-put_table.ensures.shown in
    let same = c.lines-lines.ensures in
    let status = c.status_on.ensures.value ∙ ap status_on (c.in-Ok-put_table.ensures.first ∙ ap first_in same) in
    let table = subst (λ (case : CaseRecord). IsTable c.args.line.form case shown.0) same shown.1 in
    (shown.0, (c.inputs-inputs.result, c.inputs-inputs.ensures, (c.in-Ok.worked.call, c.in-Ok.ensures.made, status, table)), shown.2)

pub returns-in-Err-clause-stopped : goal.returns-in-Err-clause-stopped
returns-in-Err-clause-stopped g c = (c.inputs-inputs.result, c.inputs-inputs.ensures, c.in-Err.ensures.stopped)

pub returns-clause-stopped : goal.returns-clause-stopped
returns-clause-stopped g c = (c.inputs-inputs.result, c.inputs-inputs.ensures, c.in-Err-put_table.ensures.stopped c.inputs-inputs.result)
