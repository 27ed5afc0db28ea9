use Rattle.std.proofs.Common.{◌≡◌, ℕ, ◌<◌, ◌^◌, length}
use Rattle.units_core.specs.Interpolation.{at, IsWithin}
use Rattle.righting.specs.Levers.{lever_top}
use Rattle.righting.proofs.heeled.levers.Given as goal

abbrev pub invariant-loop-k : goal.invariant-loop-k
invariant-loop-k l = record {
  size : length l.num ≡ 13;
  done : (j : ℕ) → j < l.k → at l.num j ≡ lever_top l.crossing.lever l.crossing.kg l.upright l.aside l.crossing.gap j;
  within : IsWithin (10 ^ 30) l.num;
}
