use Rattle.std.proofs.Common.{◌≡◌, ◌≤◌, length, take, sum_by}
use Rattle.std.specs.List.{fold}
use Rattle.prefix_scan.proofs.folds.fold.Given as goal

abbrev pub invariant-loop-value : goal.invariant-loop-value
invariant-loop-value g l = let m = g.M.Monoid in (l.value-index ≤ length l.values) × (l.sum ≡ fold m.op m.empty (take l.value-index l.values)) × (m.weight l.sum ≡ sum_by m.weight (take l.value-index l.values))
