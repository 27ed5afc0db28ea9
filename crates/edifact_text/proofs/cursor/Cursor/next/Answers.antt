use Rattle.std.proofs.Common.{◌≡◌, [], ◌∷◌, ap, ◌∙◌}
use Rattle.edifact_text.specs.declared.service.Service.{Service}
use Rattle.edifact_text.specs.Stages.{whole}
use Rattle.edifact_text.specs.Views.{ahead, stretch_of}
use Rattle.std.proofs.lemmas.Option.{MatchOption-at_some}
use Rattle.std.proofs.lemmas.Result.{err_from_is_err_and}
use Rattle.edifact_text.proofs.Steps.{next_ok, next_err, Goes}
use Rattle.edifact_text.proofs.cursor.Cursor.next.Goals as goal

pub returns-in_err-check-clause-next : goal.returns-in_err-check-clause-next
returns-in_err-check-clause-next c =
    let first = MatchOption-at_some (ahead c.args.self ≡ stretch_of c.take_nearest.result.0 ∷ []) (λ rest. Goes (ahead c.args.self) (stretch_of c.take_nearest.result.0)
    (ahead rest)) c.in-Some.rest c.in-Some.is c.take_nearest.ensures.first in
    let p = err_from_is_err_and c.from_residual.result c.from_residual.ensures.1 in
    rw (p.1, p.2) (next_err c.args.self.service c.args.self.len (ahead c.args.self) (stretch_of c.take_nearest.result.0) (ahead c.in-Some.rest) _ first
    (c.in_err-check.ensures ∙ ap (λ (sv : Service). whole sv (stretch_of c.take_nearest.result.0)) c.take_nearest.ensures.service))

pub returns-clause-next : goal.returns-clause-next
returns-clause-next c =
    let first = MatchOption-at_some (ahead c.args.self ≡ stretch_of c.take_nearest.result.0 ∷ []) (λ rest. Goes (ahead c.args.self) (stretch_of c.take_nearest.result.0)
    (ahead rest)) c.in-Some.rest c.in-Some.is c.take_nearest.ensures.first in
    next_ok c.args.self.service c.args.self.len (ahead c.args.self) (stretch_of c.take_nearest.result.0) (ahead c.in-Some.rest) first (c.in_ok-check.ensures ∙ ap
    (λ (sv : Service). whole sv (stretch_of c.take_nearest.result.0)) c.take_nearest.ensures.service)
