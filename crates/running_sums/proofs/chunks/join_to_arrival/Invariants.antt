use Rattle.std.proofs.Common.{◌≡◌, map, take}
use Rattle.moment_sums.specs.Kept.{both_kept}
use Rattle.running_sums.proofs.chunks.join_to_arrival.Given as goal

abbrev pub invariant-loop-change : goal.invariant-loop-change
invariant-loop-change l = l.sums.items ≡ map (both_kept l.arrival) (take l.change-index l.changes)
