use Rattle.std.proofs.Common.{◌≡◌, length, map}
use Rattle.std.specs.List.{range_with_len}
use Rattle.units_core.specs.Interpolation.{at}
use Rattle.strength.specs.Loads.{frame_load}
use Rattle.strength.proofs.loads.Strains.loads.Given as goal

abbrev pub invariant-loop-i : goal.invariant-loop-i
invariant-loop-i l = record {
  count : length l.list.items ≡ l.i;
  done : l.list.items ≡ map (frame_load (at l.self.shear) (at l.self.bending)) (range_with_len 0 l.i);
}
