use Rattle.std.proofs.Common.{◌≡◌, ℕ, ◌<◌, ◌≤◌, ◌*◌, ◌^◌, ◌+ℤ◌, length, slice_get, unsigned_abs}
use Rattle.units_core.specs.Interpolation.{at}
use Rattle.moment_sums.specs.Changes.{signed}
use Rattle.moment_sums.specs.Shares.{moment_aft, weight_aft}
use Rattle.moment_sums.specs.Sum.{at_frame}
use Rattle.moment_sums.proofs.changes.change_shares.Given as goal

abbrev pub invariant-loop-i : goal.invariant-loop-i
invariant-loop-i l = record {
  weights_size : length l.weights ≡ 16;
  moments_size : length l.moments ≡ 16;
  weights_done : (k : ℕ) → k < l.i → at l.weights k ≡ at l.fn.weights k +ℤ signed l.taken (at_frame weight_aft (slice_get l.list k) l.body);
  weights_small : (k : ℕ) → k < l.i → unsigned_abs (at_frame weight_aft (slice_get l.list k) l.body) ≤ 10 ^ 9;
  weights_rest : (k : ℕ) → l.i ≤ k → at l.weights k ≡ at l.fn.weights k;
  moments_done : (k : ℕ) → k < l.i → at l.moments k ≡ at l.fn.moments k +ℤ signed l.taken (at_frame moment_aft (slice_get l.list k) l.body);
  moments_small : (k : ℕ) → k < l.i → unsigned_abs (at_frame moment_aft (slice_get l.list k) l.body) ≤ 2 * 10 ^ 15;
  moments_rest : (k : ℕ) → l.i ≤ k → at l.moments k ≡ at l.fn.moments k;
}
