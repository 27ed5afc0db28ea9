use Rattle.std.proofs.Common.{◌≡◌, ◌-◌, ◌<◌, ◌≤◌, length, map, drop}
use Rattle.prefix_scan.specs.Rows.{IsWritten}
use Rattle.moment_sums.specs.Kept.{none_kept}
use Rattle.running_sums.specs.Fours.{AreOfFour, change_of, fours}
use Rattle.running_sums.proofs.fours.Fours.renew.Given as goal

abbrev pub invariant-piece : goal.invariant-piece
invariant-piece l = record {
  small : AreOfFour l.self.values;
  some : l.four < l.end → 0 < length l.room;
  ahead : l.four ≤ l.from;
  within : l.from - l.four ≤ l.end - l.four;
  written : IsWritten none_kept l.four (l.from - l.four) (drop l.four (fours (map (change_of l.frames) l.sequence.steps))) l.fn.self.values l.self.values;
  joins : l.self.joins ≡ l.fn.self.joins;
}

abbrev pub decreases-piece : goal.decreases-piece
decreases-piece l = l.end - l.from
