use Rattle.std.proofs.Common.{inl, inr}
use Rattle.std.proofs.lemmas.Result.{IfOk-weaker}
use Rattle.view_program.proofs.ShownLemmas.{unrefused_line}
use Rattle.view_program.proofs.serving.run_words.Goals as goal

pub returns-in-Ok-Call-clause-answered : goal.returns-in-Ok-Call-clause-answered
returns-in-Ok-Call-clause-answered g c = IfOk-weaker c.line_to.result _ _ (λ status h. inl (c.in-Ok-Call.line, h)) c.line_to.ensures.answered

pub returns-in-Ok-Profile-clause-answered : goal.returns-in-Ok-Profile-clause-answered
returns-in-Ok-Profile-clause-answered g c = IfOk-weaker c.profile_to.result _ _ (λ status h. inr (inl (c.in-Ok-Profile.folder.now, h))) c.profile_to.ensures.answered

pub returns-in-Ok-Session-clause-answered : goal.returns-in-Ok-Session-clause-answered
returns-in-Ok-Session-clause-answered g c = IfOk-weaker c.session_line_to.result _ _ (λ status h. inr (inr (c.in-Ok-Session.session, h))) c.session_line_to.ensures.answered

pub returns-in-Err-clause-stopped : goal.returns-in-Err-clause-stopped
returns-in-Err-clause-stopped g c = unrefused_line c.in-Err.fault c.from.result c.from.ensures
