use Rattle.std.proofs.Common.{◌≡◌, ℕ, ◌<◌, length, get_or, map}
use Rattle.prefix_scan.specs.Cut.{start_of}
use Rattle.prefix_scan.specs.Folds.{prefix}
use Rattle.moment_sums.specs.Kept.{Kept, both_kept, none_kept}
use Rattle.running_sums.specs.Fours.{change_of}
use Rattle.running_sums.proofs.fours.Fours.offsets.Given as goal

abbrev pub invariant-loop-chunk : goal.invariant-loop-chunk
invariant-loop-chunk l = record {
  count : length l.all.items ≡ l.chunk;
  each : (c : ℕ) (d : Kept) → c < l.chunk → get_or l.all.items c d ≡ prefix none_kept both_kept (map (change_of l.frames) l.sequence.steps) (start_of l.cuts c);
}
