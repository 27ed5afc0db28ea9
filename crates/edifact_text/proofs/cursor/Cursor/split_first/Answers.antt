use Rattle.std.proofs.Common.{◌≡◌, [], ◌∷◌}
use Rattle.std.proofs.lemmas.Option.{MatchOption-at_some}
use Rattle.edifact_text.specs.Views.{ahead, stretch_of}
use Rattle.edifact_text.proofs.Steps.{ended_more, Goes}
use Rattle.edifact_text.proofs.cursor.Cursor.split_first.Goals as goal

pub returns-clause-first : goal.returns-clause-first
returns-clause-first c =
    let first = MatchOption-at_some (ahead c.args.self ≡ stretch_of c.take.result.0 ∷ []) (λ rest. Goes (ahead c.args.self) (stretch_of c.take.result.0)
    (ahead rest)) c.in_ok-behind.field-0 c.in_ok-behind.was c.take.ensures.first in
    ended_more (ahead c.args.self) (stretch_of c.take.result.0) (ahead c.in_ok-behind.field-0) first
