use Rattle.std.proofs.Common.{length, refl, arith, ◌-◌}
use Rattle.edifact_text.proofs.Steps.{taken}
use Rattle.edifact_text.proofs.cursor.Cursor.near.Goals as goal

pub returns-clause-first : goal.returns-clause-first
returns-clause-first c =
    taken c.args.self.service (c.args.self.len - length c.args.self.rest.now) _ _ c.args.self.rest.now c.in_ok-front.front.now c.in_ok-front.rest.now
    c.skip_blanks-bytes.result.now c.in_ok-front.ensures.first c.skip_blanks-bytes.ensures.value refl
    (omega (arith, c.in_ok-front.ensures.len, c.args.self.within))
