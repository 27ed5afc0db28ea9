use Rattle.view_curves.specs.Decimation.{AreFound}
use Rattle.view_curves.proofs.decimation.ends_of.Given as goal

abbrev pub invariant-loop-k : goal.invariant-loop-k
invariant-loop-k l = AreFound l.curve l.start l.k l.ends
