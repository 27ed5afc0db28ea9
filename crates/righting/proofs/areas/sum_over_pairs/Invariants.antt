use Rattle.std.proofs.Common.{◌≡◌, ◌≤◌, ◌*◌, ◌^◌, unsigned_abs}
use Rattle.righting.specs.Sums.{simpson_top}
use Rattle.righting.proofs.areas.sum_over_pairs.Given as goal

abbrev pub invariant-loop-p : goal.invariant-loop-p
invariant-loop-p l = (l.num ≡ simpson_top l.levers.num l.from l.p) × (unsigned_abs l.num ≤ l.p * (6 * 10 ^ 30))
