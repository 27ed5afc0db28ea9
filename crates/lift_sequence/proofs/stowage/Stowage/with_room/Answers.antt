use Rattle.std.proofs.Common.{rules}
use Rattle.lift_sequence.proofs.States.{same}
use Rattle.lift_sequence.proofs.stowage.Stowage.with_room.Goals as goal

pub returns : goal.returns
returns c = same _ _ (search rules) (search rules)
