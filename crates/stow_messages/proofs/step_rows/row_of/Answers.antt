use Rattle.std.proofs.Common.{◌∙◌, ap, sym}
use Rattle.stow_messages.specs.Steps.{row_of}
use Rattle.stow_messages.proofs.StepLemmas.{four_fields}
use Rattle.stow_messages.proofs.step_rows.row_of.Goals as goal

pub returns-clause-value : goal.returns-clause-value
returns-clause-value c =
    let four = four_fields _ _ _ _ _ (sym c.len.ensures ∙ c.if-len-ne-FIELDS.false) c.text_at.ensures c.text_at-2.ensures c.text_at-3.ensures c.text_at-4.ensures in
    c.row_by.ensures.value ∙ sym (ap (row_of c.args.lifts) four)
