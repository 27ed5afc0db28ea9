use Rattle.std.proofs.Common.{◌≡◌, ℕ, ◌*◌, ◌^◌, ◌<◌, ◌≤◌, length, get_or, unsigned_abs}
use Rattle.units_core.specs.Interpolation.{at}
use Rattle.strength.specs.Hull.{no_weight, weight_aft}
use Rattle.strength.proofs.hulls.weights_aft.Given as goal

abbrev pub invariant-loop-i : goal.invariant-loop-i
invariant-loop-i l = record {
  size : length l.weights ≡ 16;
  done : (j : ℕ) → j < l.i → get_or l.weights j no_weight ≡ weight_aft (at l.stations) (get_or l.aft j 0);
  volumes : (j : ℕ) → unsigned_abs (get_or l.weights j no_weight).volume ≤ 2 * 10 ^ 6;
  moments : (j : ℕ) → unsigned_abs (get_or l.weights j no_weight).moment ≤ 12 * 10 ^ 12;
}
