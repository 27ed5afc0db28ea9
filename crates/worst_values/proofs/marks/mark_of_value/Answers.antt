use Rattle.worst_values.proofs.MarkLemmas.{marked_above}
use Rattle.worst_values.proofs.marks.mark_of_value.Goals as goal

pub returns : goal.returns
returns c =
    let v = c.args.value.now in
    marked_above v.step v.place v.beyond v.by.num v.by.den _ v.by.positive c.if-value.false c.mark_above.ensures
