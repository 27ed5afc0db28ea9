use Rattle.view_session.proofs.LawLemmas.{kept_lead}
use Rattle.view_session.proofs.laws.kept_edits_lead.Goals as goal

pub returns : goal.returns
returns c = kept_lead
