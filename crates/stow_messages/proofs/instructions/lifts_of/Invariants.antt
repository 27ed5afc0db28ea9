use Rattle.std.proofs.Common.{◌≡◌, [], None}
use Rattle.stow_messages.specs.Lifts.{lifts_from}
use Rattle.stow_messages.specs.Views.{parts_left}
use Rattle.stow_messages.proofs.instructions.lifts_of.Given as goal

abbrev pub invariant-loop-part : goal.invariant-loop-part
invariant-loop-part l = lifts_from l.mark l.handling l.lifts.items (parts_left l.part-iterator) ≡ lifts_from l.mark None [] (parts_left l.fn.parts)
