use Rattle.std.proofs.Common.{◌≡◌, length}
use Rattle.lift_sequence.specs.Aboard.{nothing}
use Rattle.lift_sequence.specs.Arrival.{with_items}
use Rattle.view_quotes.proofs.standing.item_in.Given as goal

abbrev pub invariant-loop-item : goal.invariant-loop-item
invariant-loop-item l =
    (with_items nothing l.rest).cells l.cell ≡ (with_items nothing l.items).cells l.cell

abbrev pub decreases-loop-item : goal.decreases-loop-item
decreases-loop-item l = length l.rest
