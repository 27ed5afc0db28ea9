use Rattle.std.proofs.Common.{◌≡◌, ◌+◌, pos, take, drop}
use Rattle.lift_sequence.specs.Aboard.{cargo_in, nothing}
use Rattle.lift_sequence.specs.Arrival.{item_bodies, items_fault, with_items}
use Rattle.lift_sequence.specs.Bodies.{bodies_in_cells}
use Rattle.units_core.specs.Totals.{total}
use Rattle.lift_sequence.proofs.arrivals.stow_items.Given as goal

abbrev pub invariant-loop-item : goal.invariant-loop-item
invariant-loop-item l = record {
  number_is : l.number ≡ l.item-index;
  stowed : pos l.number ≡ total (λ body. pos 1) (bodies_in_cells l.profile (cargo_in l.stowage).cells);
  aboard : cargo_in l.stowage ≡ with_items nothing (take l.item-index l.items);
  bodies_are : l.bodies.items ≡ item_bodies l.profile (take l.item-index l.items);
  legal : items_fault l.profile nothing 1 l.items ≡ items_fault l.profile (cargo_in l.stowage) (l.number + 1) (drop l.item-index l.items);
}
