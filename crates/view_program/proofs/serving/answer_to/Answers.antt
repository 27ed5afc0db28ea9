use Rattle.std.proofs.Common.{inl, subst}
use Rattle.std.proofs.lemmas.Result.{IfOk-weaker}
use Rattle.run_files.specs.declared.stops.Stop.{Stop}
use Rattle.view_program.specs.Answers.{IsUntouched}
use Rattle.view_program.specs.Shown.{IsStopOn, OfTexts}
use Rattle.view_program.proofs.ShownLemmas.{told_on}
use Rattle.view_program.proofs.serving.answer_to.Goals as goal

pub returns-in-Ok-clause-answered : goal.returns-in-Ok-clause-answered
returns-in-Ok-clause-answered g c = inl c.in-Ok.ensures.shown

pub returns-in-Refused-clause-answered : goal.returns-in-Refused-clause-answered
returns-in-Refused-clause-answered g c =
    let old = g.O.Write.contents c.args.out.now in
    let mid = g.O.Write.contents c.texts_to.new.out in
    let stopped = subst (λ (stop : Stop). OfTexts c.args.texts.now (λ inputs. IsStopOn inputs stop)) c.in-Refused.is c.in-Err.ensures.stopped in
    let same = subst (λ (stop : Stop). IsUntouched stop old mid) c.in-Refused.is c.in-Err.ensures.untouched in
    IfOk-weaker c.tell_refusal.result _ _
    (λ status h. told_on c.args.texts.now c.args.line status c.in-Refused.fault old mid (g.O.Write.contents c.tell_refusal.new.out) h.0 stopped same h.1) c.tell_refusal.ensures.told
