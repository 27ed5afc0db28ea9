use Rattle.std.proofs.Common.{arith}
use Rattle.step_edits.proofs.EditLemmas.{place_is}
use Rattle.step_edits.proofs.lists.place_of.Goals as goal

pub returns-clause-value : goal.returns-clause-value
returns-clause-value c = place_is _ c.args.number (omega (arith, c.requires))
