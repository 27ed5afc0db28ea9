use Rattle.std.proofs.Common.{ap, inl}
use Rattle.lift_sequence.specs.Aboard.{Aboard}
use Rattle.lift_sequence.proofs.near.part_for.Goals as goal

pub add_around-requires : goal.add_around-requires
add_around-requires c = λ cell. inl (ap (λ (a : Aboard). a.cells cell) c.in_ok-part.ensures)

pub add_cell-requires : goal.add_cell-requires
add_cell-requires c = λ cell. inl (ap (λ (a : Aboard). a.cells cell) c.in_ok-part.ensures)

pub add_tank-requires : goal.add_tank-requires
add_tank-requires c = λ tank. ap (λ (a : Aboard). a.tanks tank) c.in_ok-part.ensures

pub add_cell-requires-in-Restow : goal.add_cell-requires-in-Restow
add_cell-requires-in-Restow c = λ cell. inl (ap (λ (a : Aboard). a.cells cell) c.in_ok-part.ensures)
