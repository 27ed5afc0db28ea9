use Rattle.std.proofs.Common.{◌≡◌, ◌≤◌, length, take, sum_by}
use Rattle.std.specs.List.{fold, scan}
use Rattle.prefix_scan.proofs.folds.offsets.Given as goal

abbrev pub invariant-loop-value : goal.invariant-loop-value
invariant-loop-value g l = let m = g.M.Monoid in (l.all.items ≡ scan m.op (λ s x. s) m.empty (take l.value-index l.values)) × (l.value-index ≤ length l.values) × (l.before ≡ fold m.op m.empty (take l.value-index l.values)) × (m.weight l.before ≡ sum_by m.weight (take l.value-index l.values))
