use Rattle.std.proofs.Common.{sym, ◌∙◌}
use Rattle.edifact_text.proofs.FieldLemmas.{seven_digits}
use Rattle.edifact_text.proofs.fields.leading_seven.Goals as goal

pub returns-then-is_empty : goal.returns-then-is_empty
returns-then-is_empty c =
    seven_digits c.args.service c.args.bytes.now c.requires c.in-len7-up.len_at_least c.if-is_digit.ensures c.if-is_digit-2.ensures c.if-is_digit-3.ensures
    c.if-is_digit-4.ensures c.if-is_digit-5.ensures c.if-is_digit-6.ensures c.if-is_digit-7.ensures
    (sym c.leading.ensures ∙ c.is_empty.ensures.0 c.if-is_empty.true)
