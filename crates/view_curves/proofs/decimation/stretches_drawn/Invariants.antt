use Rattle.view_curves.proofs.StretchLemmas.{AreDrawnUpTo}
use Rattle.view_curves.proofs.decimation.stretches_drawn.Given as goal

abbrev pub invariant-loop-stretch : goal.invariant-loop-stretch
invariant-loop-stretch l = AreDrawnUpTo l.curve l.stretch l.start l.drawn.items
