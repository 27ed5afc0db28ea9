use Rattle.view_quotes.proofs.NumberLemmas.{segments_numbered}
use Rattle.view_quotes.proofs.laws.segments_are_numbered.Goals as goal

pub returns : goal.returns
returns c = segments_numbered
