use Rattle.std.proofs.Common.{inl, inr, subst}
use Rattle.std.proofs.lemmas.Result.{IfOk-weaker}
use Rattle.ship_profile.specs.Record.{Texts}
use Rattle.view_program.specs.Answers.{IsProfileAnswerOn}
use Rattle.view_program.proofs.serving.profile_to.Goals as goal

pub returns-in-Ok-clause-answered : goal.returns-in-Ok-clause-answered
returns-in-Ok-clause-answered g c =
    IfOk-weaker c.folder_to.result _ _
    (λ status h. inl (c.in-Ok.texts, c.in-Ok.ensures.texts, subst (λ (t : Texts). IsProfileAnswerOn t status (g.O.Write.contents c.args.out.now) (g.O.Write.contents c.folder_to.new.out)) c.texts-bytes.ensures h)) c.folder_to.ensures.answered

pub returns-in-Err-clause-answered : goal.returns-in-Err-clause-answered
returns-in-Err-clause-answered g c = IfOk-weaker c.tell_unread.result _ _ (λ status five. inr five) c.tell_unread.ensures.status
