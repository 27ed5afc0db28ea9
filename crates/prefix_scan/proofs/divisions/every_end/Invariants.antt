use Rattle.std.proofs.Common.{◌≡◌, ℕ, ◌<◌, ◌*◌, ◌+◌, ◌-◌, get_or, length}
use Rattle.prefix_scan.proofs.divisions.every_end.Given as goal

abbrev pub invariant-next : goal.invariant-next
invariant-next l = record {
  place : l.at ≡ length l.ends.items * l.n;
  short : l.at < l.len;
  each : (k : ℕ) → k < length l.ends.items → get_or l.ends.items k 0 ≡ (k + 1) * l.n;
}

abbrev pub decreases-next : goal.decreases-next
decreases-next l = l.len - l.at
