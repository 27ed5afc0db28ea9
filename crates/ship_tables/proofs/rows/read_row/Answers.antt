use Rattle.std.proofs.Common.{◌∙◌}
use Rattle.std.proofs.lemmas.Result.{err_from_is_err_and}
use Rattle.ship_tables.specs.Tables.{form_of}
use Rattle.ship_tables.proofs.RowLemmas.{field-more, field-stop, row-full}
use Rattle.ship_tables.proofs.rows.read_row.Goals as goal

pub returns-in_err-add_field-clause-refused : goal.returns-in_err-add_field-clause-refused
returns-in_err-add_field-clause-refused c =
    let p = err_from_is_err_and c.from_residual-in_err-add_field.result c.from_residual-in_err-add_field.ensures.1 in
    rw (p.1, p.2) (λ m.
    let stop = field-stop _ _ _ _ _ _ _ _ _ c.loop-place-test.true c.text_at-text.ensures (c.in_err-add_field.ensures.refused m) in
    row-full (form_of c.args.layout.now) _ _ _ c.loop-place.invariant.fields (c.loop-place.invariant.rest ∙ stop))

pub loop-place-preserved : goal.loop-place-preserved
loop-place-preserved c =
    let one = c.in_ok-add_field.ensures.ok in
    let more = field-more _ _ _ _ _ _ _ c.loop-place.read.items _ c.loop-place-test.true c.text_at-text.ensures one.1 in
    record { fields = c.loop-place.invariant.fields; rest = rw one.2 (c.loop-place.invariant.rest ∙ more) }
