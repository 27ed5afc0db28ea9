use Rattle.std.proofs.Common.{inr, subst}
use Rattle.std.proofs.lemmas.Result.{IfOk-weaker}
use Rattle.command_line.specs.declared.lines.Line.{Line}
use Rattle.run_files.specs.Files.{AreTexts}
use Rattle.view_program.proofs.ShownLemmas.{on_answer}
use Rattle.view_program.proofs.serving.line_to.Goals as goal

pub returns-in-Ok-clause-answered : goal.returns-in-Ok-clause-answered
returns-in-Ok-clause-answered g c =
    let known = g.R.Readers.known c.args.files.now in
    let read = subst (λ (l : Line). AreTexts known l c.in-Ok.texts) c.files_of.ensures c.in-Ok.ensures.texts in
    IfOk-weaker c.answer_to.result _ _ (λ status h. on_answer known c.args.line c.in-Ok.texts read status _ _ h) c.answer_to.ensures.answered

pub returns-in-Err-clause-answered : goal.returns-in-Err-clause-answered
returns-in-Err-clause-answered g c = IfOk-weaker c.tell_unread.result _ _ (λ status five. inr (inr five)) c.tell_unread.ensures.status
