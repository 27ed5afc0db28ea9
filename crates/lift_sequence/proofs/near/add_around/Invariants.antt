use Rattle.std.proofs.Common.{◌≡◌, ◌<◌, ◌≤◌, ℕ, true}
use Rattle.units_core.specs.declared.cells.Cell.{Cell}
use Rattle.units_core.specs.Cells.{meet}
use Rattle.lift_sequence.specs.Aboard.{Aboard, after_all, cargo_in}
use Rattle.lift_sequence.specs.Arrival.{cargo_on}
use Rattle.lift_sequence.specs.Legal.{in_bay}
use Rattle.lift_sequence.specs.Singles.{IsPart}
use Rattle.lift_sequence.proofs.near.add_around.Given as goal

-- what is in the cell, and in those of the bays that were looked at which overlap it, was added
abbrev pub invariant-loop-bay : goal.invariant-loop-bay
invariant-loop-bay l =
    let whole : Aboard = after_all l.profile (cargo_on l.arrival) l.ops in
    record {
      part : IsPart (cargo_in l.part) whole;
      here : (cargo_in l.part).cells l.cell ≡ whole.cells l.cell;
      beside : (b : ℕ) → l.first ≤ b → b < l.bay → meet b l.cell.bay ≡ true → (cargo_in l.part).cells (in_bay l.cell b) ≡ whole.cells (in_bay l.cell b);
      kept : (other : Cell) → (cargo_in l.fn.part).cells other ≡ whole.cells other → (cargo_in l.part).cells other ≡ whole.cells other;
    }
