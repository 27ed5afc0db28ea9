use Rattle.std.proofs.Common.{◌≡◌, length}
use Rattle.lift_sequence.specs.Independent.{moved}
use Rattle.lift_sequence.proofs.carrying.carry_on.Given as goal

-- the element stands at the place that the loop has reached
abbrev pub invariant-loop-place : goal.invariant-loop-place
invariant-loop-place g l = record {
  long : length l.items.items ≡ length l.fn.items.items;
  stands : l.items.items ≡ moved l.fn.items.items l.fn.from l.place;
}
