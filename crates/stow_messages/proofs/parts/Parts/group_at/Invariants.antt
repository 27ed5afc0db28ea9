use Rattle.std.proofs.Common.{◌≡◌, None, length}
use Rattle.edifact_text.specs.Views.{numbered_view, left_of}
use Rattle.stow_messages.specs.Groups.{found_in, parts_of, until_part}
use Rattle.stow_messages.specs.Views.{found_view, more_found}
use Rattle.stow_messages.proofs.parts.Parts.group_at.Given as goal

abbrev pub invariant-loop-segment : goal.invariant-loop-segment
invariant-loop-segment l = record {
  handles : l.self.handles ≡ l.fn.self.handles;
  none_ahead : l.self.ahead ≡ None;
  found : more_found (found_view l.group) (until_part l.self.handles (left_of l.left)) ≡ found_in (numbered_view l.location) (until_part l.fn.self.handles (left_of l.fn.self.left));
  left : parts_of l.self.handles (left_of l.left) ≡ parts_of l.fn.self.handles (left_of l.fn.self.left);
}

abbrev pub decreases-loop-segment : goal.decreases-loop-segment
decreases-loop-segment l = length (left_of l.left)
