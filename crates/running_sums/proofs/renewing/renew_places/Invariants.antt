use Rattle.std.proofs.Common.{◌≡◌, ◌/◌, length, map, drop}
use Rattle.running_sums.specs.Fours.{AreOfFour, LackPlaces, change_of, fours}
use Rattle.running_sums.proofs.renewing.renew_places.Given as goal

-- what the steps at the places change that the loop has yet to reach isn't set
abbrev pub invariant-loop-n : goal.invariant-loop-n
invariant-loop-n l = record {
  long : length l.sums.values ≡ length l.sequence.ops / 4;
  small : AreOfFour l.sums.values;
  lack : LackPlaces (drop l.n l.places) (fours (map (change_of l.frames) l.sequence.steps)) l.sums.values;
  joins : l.sums.joins ≡ l.fn.sums.joins;
}
