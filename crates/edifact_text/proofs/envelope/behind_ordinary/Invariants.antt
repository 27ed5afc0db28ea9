use Rattle.std.proofs.Common.{◌≡◌, ◌+◌, ◌≤◌, length}
use Rattle.edifact_text.specs.Stages.{trailer_of}
use Rattle.edifact_text.specs.Views.{ahead}
use Rattle.edifact_text.proofs.envelope.behind_ordinary.Given as goal

abbrev pub invariant-loop-behind : goal.invariant-loop-behind
invariant-loop-behind g l = record {
  so_far : trailer_of l.from.left.service l.from.left.len l.number (ahead l.left) ≡ trailer_of l.from.left.service l.from.left.len l.from.number (ahead l.from.left);
  service : l.left.service ≡ l.from.left.service;
  len : l.left.len ≡ l.from.left.len;
  less : length l.left.rest.now ≤ length l.from.left.rest.now;
  fits : l.number + length l.left.rest.now ≤ l.from.number + length l.from.left.rest.now;
  least : l.from.number ≤ l.number;
}

abbrev pub decreases-loop-behind : goal.decreases-loop-behind
decreases-loop-behind g l = length l.left.rest.now
