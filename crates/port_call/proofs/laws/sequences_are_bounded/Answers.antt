use Rattle.port_call.proofs.StepBounds.{all_steps}
use Rattle.port_call.proofs.laws.sequences_are_bounded.Goals as goal

pub returns : goal.returns
returns c = all_steps
