use Rattle.std.proofs.Common.{◌≡◌, ◌<◌, ℕ, false}
use Rattle.std.specs.Option.{is_some}
use Rattle.lift_sequence.specs.Aboard.{cargo_in}
use Rattle.lift_sequence.specs.Legal.{is_rival}
use Rattle.lift_sequence.proofs.stowage.Stowage.overlap.Given as goal

abbrev pub invariant-loop-bay : goal.invariant-loop-bay
invariant-loop-bay l =
    is_some ((cargo_in l.self).cells l.cell) ≡ false → (b : ℕ) → b < l.bay → is_rival (cargo_in l.self).cells l.cell b ≡ false
