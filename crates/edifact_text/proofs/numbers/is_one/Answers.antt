use Rattle.std.proofs.Common.{sym, ◌∙◌, ◌∷◌, []}
use Rattle.edifact_text.specs.Views.{meaning_of}
use Rattle.edifact_text.proofs.Texts.{told, one_ends}
use Rattle.edifact_text.proofs.numbers.is_one.Goals as goal

pub returns-then-byte-ne48 : goal.returns-then-byte-ne48
returns-then-byte-ne48 c =
    told c.is.result (meaning_of c.loop-byte.left) (49 ∷ []) c.is.ensures ∙ (sym (one_ends c.in-Some.byte (meaning_of c.in-Some.rest)
    (meaning_of c.loop-byte.left) c.in-Some.ensures.first c.if-byte-ne48.true) ∙ c.loop-byte.invariant)
