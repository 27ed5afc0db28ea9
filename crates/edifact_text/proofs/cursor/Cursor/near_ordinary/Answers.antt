use Rattle.std.proofs.Common.{length, refl, arith, ◌-◌}
use Rattle.edifact_text.proofs.OrdinaryLemmas.{ordinary_begun}
use Rattle.edifact_text.proofs.Steps.{taken}
use Rattle.edifact_text.proofs.cursor.Cursor.near_ordinary.Goals as goal

pub returns-clause-first : goal.returns-clause-first
returns-clause-first c =
    taken c.args.self.service (c.args.self.len - length c.args.self.rest.now) _ _ c.args.self.rest.now c.in_ok-front.front.now c.in_ok-front.rest.now
    c.in_ok-bytes.bytes.now c.in_ok-front.ensures.first c.in_ok-bytes.ensures.value refl
    (omega (arith, c.in_ok-front.ensures.len, c.args.self.within))

pub returns-clause-ordinary : goal.returns-clause-ordinary
returns-clause-ordinary c =
    ordinary_begun c.args.self.service _ c.in_ok-bytes.bytes.now c.args.self.fit (omega (arith, c.in_ok-front.ensures.near, c.in_ok-bytes.ensures.less))
    c.in_ok-bytes.ensures.letter
