use Rattle.std.proofs.Common.{◌∙◌, sym}
use Rattle.csv_text.proofs.ReadingLemmas.{gave_one}
use Rattle.ship_tables.proofs.PlainLemmas.{plain-places, if_settled}
use Rattle.ship_tables.proofs.plain_cells.read_plain.Goals as goal

pub returns-in-Some-clause-ok : goal.returns-in-Some-clause-ok
returns-in-Some-clause-ok c =
    let gave = gave_one _ _ _ _ c.if-not-branch.false (c.in_ok-found_record.ensures.ok _ c.open_records-reader.ensures) in
    let read = rw c.in-Some.is at c.in_ok-columns.ensures.read in
    let few = rw c.in-Some.is at c.in_ok-columns.ensures.few in
    if_settled _ _ c.settle.result c.settle.ensures.value c.settle.ensures.some c.settle.ensures.apart (λ some apart.
    plain-places c.args.extent.now c.args.text.now _ gave.0 _ _ gave.1 (sym c.len.ensures ∙ c.if-len-ne-COLUMNS.false) (read gave.0 gave.2) apart some few)
