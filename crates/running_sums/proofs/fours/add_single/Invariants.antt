use Rattle.std.proofs.Common.{◌≡◌, ◌+◌, ◌*◌, ◌/◌, ◌^◌, ◌<◌, ◌≤◌, map}
use Rattle.prefix_scan.specs.Folds.{prefix}
use Rattle.moment_sums.specs.Kept.{both_kept, none_kept}
use Rattle.running_sums.specs.Fours.{change_of}
use Rattle.running_sums.proofs.fours.add_single.Given as goal

abbrev pub invariant-loop-place : goal.invariant-loop-place
invariant-loop-place l = record {
  value : l.sum ≡ prefix none_kept both_kept (map (change_of l.frames) l.sequence.steps) l.place;
  from : l.k / 4 * 4 ≤ l.place;
  grows : l.fn.count ≤ l.count;
  within : l.place ≤ l.k;
  cost : l.count + l.k / 4 * 4 ≤ l.fn.count + l.place;
  counted : l.fn.count + l.place < 2 ^ 64 + l.k / 4 * 4 → l.count + l.k / 4 * 4 ≡ l.fn.count + l.place;
}
