use Rattle.std.proofs.Common.{◌≡◌, ◌-◌, ◌<◌, ◌≤ℤ◌, ◌<ℤ◌, ◌⊎◌, length}
use Rattle.units_core.specs.Interpolation.{at}
use Rattle.units_core.proofs.tables.enclosing.Given as goal

abbrev pub invariant-loop-above : goal.invariant-loop-above
invariant-loop-above l = record {
  order : l.below < l.above;
  inside : l.above < length l.arguments;
  from : at l.arguments l.below ≤ℤ l.x;
  past : (l.below ≡ 0) ⊎ (at l.arguments l.below <ℤ l.x);
  to : l.x ≤ℤ at l.arguments l.above;
}

abbrev pub decreases-loop-above : goal.decreases-loop-above
decreases-loop-above l = l.above - l.below
