use Rattle.std.proofs.Common.{rules, inl, refl}
use Rattle.std.proofs.lemmas.Result.{IfErr-weaker, IfOk-weaker}
use Rattle.run_files.specs.Statuses.{IsUnread}
use Rattle.program.proofs.StopLemmas.{left_of_line, reported, unread, unreported}
use Rattle.seq_report.proofs.WrittenLemmas.{nothing}
use Rattle.program.proofs.serving.line_to.Goals as goal

pub returns-in_err-texts-clause-left : goal.returns-in_err-texts-clause-left
returns-in_err-texts-clause-left g c = IfErr-weaker c.from_residual.result IsUnread _ (λ stop h. nothing _ _ _ refl (inl (unread stop h))) (search rules)

pub returns-clause-told : goal.returns-clause-told
returns-clause-told g c =
    IfOk-weaker c.task_to.result _ _
    (reported (g.R.Readers.known c.args.files.now) c.args.line c.inputs.result c.in_ok-texts.texts c.edits.result.now c.inputs.ensures c.edits.ensures c.in_ok-texts.ensures.texts _ _)
    c.task_to.ensures.written

pub returns-clause-stopped : goal.returns-clause-stopped
returns-clause-stopped g c =
    IfErr-weaker c.task_to.result _ _
    (unreported (g.R.Readers.known c.args.files.now) c.args.line c.inputs.result c.in_ok-texts.texts c.edits.result.now c.inputs.ensures c.edits.ensures c.in_ok-texts.ensures.texts _)
    c.task_to.ensures.stopped

pub returns-clause-left : goal.returns-clause-left
returns-clause-left g c =
    IfErr-weaker c.task_to.result _ _
    (left_of_line (g.R.Readers.known c.args.files.now) c.args.line c.inputs.result c.in_ok-texts.texts c.edits.result.now c.inputs.ensures c.edits.ensures c.in_ok-texts.ensures.texts _ _)
    c.task_to.ensures.left
