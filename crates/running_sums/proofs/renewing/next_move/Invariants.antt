use Rattle.running_sums.specs.Fours.{AreStill}
use Rattle.running_sums.proofs.renewing.next_move.Given as goal

abbrev pub invariant-loop-place : goal.invariant-loop-place
invariant-loop-place l = AreStill l.cell l.ops l.from l.place
