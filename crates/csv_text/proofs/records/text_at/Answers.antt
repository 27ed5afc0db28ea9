use Rattle.csv_text.proofs.ReadingLemmas.{field_is, field_there}
use Rattle.csv_text.proofs.records.text_at.Goals as goal

pub unwrap-requires : goal.unwrap-requires
unwrap-requires c = field_there _ _ _ c.requires c.get.ensures.value

pub returns : goal.returns
returns c = field_is _ _ _ c.get.ensures.value c.unwrap.ensures
