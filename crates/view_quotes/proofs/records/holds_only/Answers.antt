use Rattle.std.proofs.Common.{◌∙◌, List, [], ◌∷◌, ap}
use Rattle.csv.specs.Records.{fields_of}
use Rattle.csv_text.specs.Reading.{Fields}
use Rattle.csv_text.proofs.ReadingLemmas.{gave_one, gave_none}
use Rattle.view_quotes.proofs.records.holds_only.Goals as goal

pub returns : goal.returns
returns c holds =
    let gave = gave_one _ _ _ _ c.if-not-branch.false (c.in_ok-next_record.ensures _ c.open_records-reader.ensures) in
    let none = gave_none _ _ _ _ c.if-branch.false (c.in_ok-next_record-2.ensures _ gave.2) in
    gave.1 ∙ ap (λ (rest : List Fields). fields_of c.next_record.new.fields ∷ rest) none ∙ ap (λ (first : Fields). first ∷ []) (c.if-not-are_same.ensures holds)
