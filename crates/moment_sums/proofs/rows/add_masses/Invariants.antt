use Rattle.std.proofs.Common.{◌≡◌, ℕ, ◌<◌, length, ◌+ℤ◌}
use Rattle.units_core.specs.Interpolation.{at}
use Rattle.moment_sums.proofs.rows.add_masses.Given as goal

abbrev pub invariant-loop-i : goal.invariant-loop-i
invariant-loop-i l = (length l.sums ≡ 16) × ((k : ℕ) → k < l.i → at l.sums k ≡ at l.one k +ℤ at l.other k)
