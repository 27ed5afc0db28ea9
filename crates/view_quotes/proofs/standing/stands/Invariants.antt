use Rattle.std.proofs.Common.{◌≡◌, length}
use Rattle.ship_profile.specs.Record.{ProfileRecord}
use Rattle.lift_sequence.specs.Aboard.{Aboard, after_all}
use Rattle.view_quotes.proofs.standing.stands.Given as goal

abbrev pub invariant-loop-op : goal.invariant-loop-op
invariant-loop-op l =
    (ship : ProfileRecord) (at : Aboard)
    → (after_all ship at l.rest).cells l.place ≡ (after_all ship at l.ops).cells l.fn.cell

abbrev pub decreases-loop-op : goal.decreases-loop-op
decreases-loop-op l = length l.rest
