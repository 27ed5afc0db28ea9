use Rattle.std.proofs.Common.{◌≡◌, ◌≤◌, length}
use Rattle.lift_sequence.specs.Independent.{moved}
use Rattle.lift_sequence.proofs.carrying.carry_back.Given as goal

-- the element stands at the place that the loop has reached
abbrev pub invariant-loop-place : goal.invariant-loop-place
invariant-loop-place g l = record {
  within : l.place ≤ l.fn.from;
  reached : l.to ≤ l.place;
  long : length l.items.items ≡ length l.fn.items.items;
  stands : l.items.items ≡ moved l.fn.items.items l.fn.from l.place;
}

abbrev pub decreases-loop-place : goal.decreases-loop-place
decreases-loop-place g l = l.place
