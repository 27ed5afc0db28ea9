use Rattle.lift_sequence.proofs.IndependentLemmas.{independent_commute, tells_independent}
use Rattle.lift_sequence.proofs.laws.independent_steps_commute.Goals as goal

pub returns : goal.returns
returns c = record { test = tells_independent; commute = independent_commute }
