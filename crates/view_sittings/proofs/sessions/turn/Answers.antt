use Rattle.view_sittings.proofs.sessions.turn.Goals as goal

pub returns-clause-from : goal.returns-clause-from
returns-clause-from g c = λ base from h. c.in_ok-next.ensures.from base from h
