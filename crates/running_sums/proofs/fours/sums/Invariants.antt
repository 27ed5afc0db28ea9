use Rattle.std.proofs.Common.{◌≡◌, map, take}
use Rattle.running_sums.specs.Fours.{change_of, fours}
use Rattle.running_sums.proofs.fours.sums.Given as goal

abbrev pub invariant-loop-four : goal.invariant-loop-four
invariant-loop-four l = l.all.items ≡ take l.four (fours (map (change_of l.frames) l.sequence.steps))
