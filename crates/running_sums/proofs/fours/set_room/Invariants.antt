use Rattle.std.proofs.Common.{◌≡◌, ℕ, ◌+◌, ◌*◌, ◌^◌, ◌<◌, ◌≤◌, length, get_or, map}
use Rattle.moment_sums.specs.Kept.{none_kept}
use Rattle.running_sums.specs.Fours.{change_of, fours}
use Rattle.running_sums.proofs.fours.set_room.Given as goal

abbrev pub invariant-loop-k : goal.invariant-loop-k
invariant-loop-k l = record {
  long : length l.room ≡ length l.fn.room;
  each : (j : ℕ) → j < l.k → get_or l.room j none_kept ≡ get_or (fours (map (change_of l.frames) l.sequence.steps)) (l.four + j) none_kept;
  grows : l.fn.count ≤ l.count;
  bound : l.count ≤ l.fn.count + 3 * l.k;
  counted : l.fn.count + 3 * l.k < 2 ^ 64 → l.count ≡ l.fn.count + 3 * l.k;
}
