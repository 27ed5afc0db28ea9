use Rattle.std.proofs.Common.{◌∙◌, sym}
use Rattle.csv.specs.Records.{fields_of}
use Rattle.ship_tables.proofs.PlainLemmas.{plain-row}
use Rattle.ship_tables.proofs.plain_cells.plain_row.Goals as goal

pub returns-then-holds : goal.returns-then-holds
returns-then-holds c = record {
  row = plain-row c.args.extent.now (fields_of c.args.fields.now) _ _ _ _ _ c.in_ok-cell.cell _ c.requires c.text_at.ensures c.text_at-2.ensures c.text_at-3.ensures c.text_at-4.ensures
      c.text_at-5.ensures (sym c.read.ensures ∙ c.in_ok-cell.was) c.in_ok-x.ensures c.in_ok-y.ensures c.in_ok-z.ensures c.in_ok-half.ensures;
  within = sym c.holds.ensures ∙ c.if-holds.true;
}
