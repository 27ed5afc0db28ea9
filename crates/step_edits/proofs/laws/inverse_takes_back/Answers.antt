use Rattle.step_edits.proofs.EditLemmas.{takes_back}
use Rattle.step_edits.proofs.laws.inverse_takes_back.Goals as goal

pub returns : goal.returns
returns c = takes_back
