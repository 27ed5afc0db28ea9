use Rattle.std.proofs.Common.{◌≡◌, length}
use Rattle.stow_messages.specs.Views.{parts_left, segments_left}
use Rattle.stow_messages.proofs.parts.PartsIterator.next.Given as goal

abbrev pub invariant-loop-known : goal.invariant-loop-known
invariant-loop-known l = parts_left l.self ≡ parts_left l.initial.self

abbrev pub decreases-loop-known : goal.decreases-loop-known
decreases-loop-known l = length (segments_left l.self)
