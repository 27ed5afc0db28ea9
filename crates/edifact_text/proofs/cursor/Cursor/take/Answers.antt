use Rattle.std.proofs.Common.{◌≡◌, ◌-◌, ◌+◌, length, refl, arith, [], ◌∷◌}
use Rattle.std.proofs.lemmas.Option.{MatchOption-at_some}
use Rattle.edifact_text.specs.Pieces.{pieces}
use Rattle.edifact_text.proofs.Steps.{taken}
use Rattle.edifact_text.proofs.cursor.Cursor.take.Goals as goal

pub returns-in-Some-clause-first : goal.returns-in-Some-clause-first
returns-in-Some-clause-first c =
    let sv = c.args.self.service in
    let first = MatchOption-at_some (pieces sv.release sv.terminator c.args.self.rest.now ≡ c.far_cut.result.0.now ∷ [])
    (λ rest. pieces sv.release sv.terminator c.args.self.rest.now ≡ c.far_cut.result.0.now ∷ pieces sv.release sv.terminator rest.now) c.in-Some.rest c.in-Some.is c.far_cut.ensures.first in
    let len = MatchOption-at_some _ (λ rest. length c.far_cut.result.0.now + 1 + length rest.now ≡ length c.args.self.rest.now) c.in-Some.rest c.in-Some.is c.far_cut.ensures.len in
    taken sv (c.args.self.len - length c.args.self.rest.now) _ _ c.args.self.rest.now c.far_cut.result.0.now c.in-Some.rest.now c.skip_blanks-bytes.result.now first c.skip_blanks-bytes.ensures.value refl (omega (arith, len, c.args.self.within))
