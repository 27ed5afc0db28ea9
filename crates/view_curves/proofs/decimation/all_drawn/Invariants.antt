use Rattle.view_curves.proofs.StretchLemmas.{AreDrawnTo}
use Rattle.view_curves.proofs.decimation.all_drawn.Given as goal

abbrev pub invariant-loop-k : goal.invariant-loop-k
invariant-loop-k l = AreDrawnTo l.curve l.k l.drawn.items
