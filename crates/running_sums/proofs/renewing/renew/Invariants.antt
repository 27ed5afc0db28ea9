use Rattle.std.proofs.Common.{◌≡◌, ℕ, ◌+◌, ◌-◌, ◌*◌, ◌/◌, ◌^◌, ◌<◌, ◌≤◌, Some, true, drop, map, length}
use Rattle.std.specs.Prelude.{slice_get}
use Rattle.lift_sequence.specs.declared.operations.Op.{Op}
use Rattle.lift_sequence.specs.Follow.{loaded_at, moves, moves_in}
use Rattle.running_sums.specs.Fours.{AreMixedBut, AreOfFour, change_of}
use Rattle.running_sums.proofs.renewing.renew.Given as goal

abbrev pub invariant-loop-behind : goal.invariant-loop-behind
invariant-loop-behind l = record {
  inside : l.behind ≤ length l.sequence.ops;
  moved : (op : Op) → slice_get l.sequence.ops l.behind ≡ Some op → moves l.cell op ≡ true;
  mixed : AreMixedBut l.cell l.behind l.run.four l.run.end l.sequence.ops (map (change_of l.frames) l.sequence.steps) l.sums.values;
  long : length l.sums.values ≡ length l.sequence.ops / 4;
  small : AreOfFour l.sums.values;
  some : l.run.four < l.run.end;
  fits : l.run.end ≤ l.run.four + length l.room;
  grows : l.fn.sums.joins ≤ l.sums.joins;
  cost : (k : ℕ) → length l.sequence.ops ≤ 2 ^ k → l.sums.joins + (l.run.end - l.run.four + moves_in l.cell (drop l.behind l.sequence.ops)) * (k + 1)
      ≤ l.fn.sums.joins + (moves_in (loaded_at l.sequence.ops l.fn.place) (drop (l.fn.place + 1) l.sequence.ops) + 1) * (k + 1);
}

abbrev pub decreases-loop-behind : goal.decreases-loop-behind
decreases-loop-behind l = length l.sequence.ops - l.behind
