use Rattle.std.proofs.Common.{◌≡◌, take}
use Rattle.lift_sequence.specs.Aboard.{cargo_in}
use Rattle.lift_sequence.specs.Arrival.{with_fills}
use Rattle.lift_sequence.proofs.arrivals.fill_all.Given as goal

abbrev pub invariant-loop-fill : goal.invariant-loop-fill
invariant-loop-fill l = cargo_in l.stowage ≡ with_fills (cargo_in l.fn.stowage) (take l.fill-index l.fills)
