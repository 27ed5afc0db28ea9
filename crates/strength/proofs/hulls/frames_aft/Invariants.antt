use Rattle.std.proofs.Common.{◌≡◌, ℕ, ◌<◌, length, get_or, slice_get}
use Rattle.std.specs.Prelude.{IfSome}
use Rattle.strength.specs.Buoyancy.{intervals_aft}
use Rattle.strength.proofs.hulls.frames_aft.Given as goal

abbrev pub invariant-loop-i : goal.invariant-loop-i
invariant-loop-i l = record {
  size : length l.aft ≡ 16;
  done : (j : ℕ) → j < l.i → IfSome (slice_get l.frames j) (λ frame. get_or l.aft j 0 ≡ intervals_aft l.stations frame.x);
  inside : (j : ℕ) → get_or l.aft j 0 < length l.stations;
}
