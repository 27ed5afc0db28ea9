use Rattle.std.proofs.Common.{◌≡◌, map}
use Rattle.std.specs.List.{range_with_len}
use Rattle.units_core.specs.Interpolation.{at}
use Rattle.ship_profile.specs.Sections.{station_weight}
use Rattle.ship_profile.proofs.sections.station_weights.Given as goal

abbrev pub invariant-loop-k : goal.invariant-loop-k
invariant-loop-k l = l.weights.items ≡ map (station_weight (at l.stations)) (range_with_len 0 l.k)
