use Rattle.std.proofs.Common.{◌≡◌, []}
use Rattle.stow_messages.specs.Items.{items_from}
use Rattle.stow_messages.specs.Views.{parts_left}
use Rattle.stow_messages.proofs.plans.items_of.Given as goal

abbrev pub invariant-loop-part : goal.invariant-loop-part
invariant-loop-part l = items_from l.mark l.items.items (parts_left l.part-iterator) ≡ items_from l.mark [] (parts_left l.fn.parts)
