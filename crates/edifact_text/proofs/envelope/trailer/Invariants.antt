use Rattle.std.proofs.Common.{◌≡◌, ◌+◌, ◌≤◌, length}
use Rattle.edifact_text.specs.Stages.{trailer_of}
use Rattle.edifact_text.specs.Views.{ahead}
use Rattle.edifact_text.proofs.envelope.trailer.Given as goal

abbrev pub invariant-segments : goal.invariant-segments
invariant-segments l = record {
  so_far : trailer_of l.cursor.service l.cursor.len l.number (ahead l.left) ≡ trailer_of l.cursor.service l.cursor.len 2 (ahead l.cursor);
  service : l.left.service ≡ l.cursor.service;
  len : l.left.len ≡ l.cursor.len;
  least : 2 ≤ l.number;
  fits : l.number + length l.left.rest.now ≤ 2 + length l.cursor.rest.now;
}

abbrev pub decreases-segments : goal.decreases-segments
decreases-segments l = length l.left.rest.now
