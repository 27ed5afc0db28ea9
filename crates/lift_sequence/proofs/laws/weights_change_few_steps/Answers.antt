use Rattle.lift_sequence.proofs.FollowLemmas.{moves_few, reweighed_once, reweighs, reweighs_sequences}
use Rattle.lift_sequence.proofs.laws.weights_change_few_steps.Goals as goal

pub returns : goal.returns
returns c = record { steps = reweighs; sequences = reweighs_sequences; once = reweighed_once; few = moves_few }
