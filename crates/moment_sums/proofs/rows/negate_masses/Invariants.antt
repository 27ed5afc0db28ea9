use Rattle.std.proofs.Common.{◌≡◌, ℕ, ◌<◌, length, neg_ℤ}
use Rattle.units_core.specs.Interpolation.{at}
use Rattle.moment_sums.proofs.rows.negate_masses.Given as goal

abbrev pub invariant-loop-i : goal.invariant-loop-i
invariant-loop-i l = (length l.negated ≡ 16) × ((k : ℕ) → k < l.i → at l.negated k ≡ neg_ℤ (at l.masses k))
