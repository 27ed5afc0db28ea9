use Rattle.std.proofs.Common.{ℕ, ◌<◌, ◌≤◌, get_or}
use Rattle.seq_report.proofs.failures.first_with.Given as goal

abbrev pub invariant-loop-chunk : goal.invariant-loop-chunk
invariant-loop-chunk l = (j : ℕ) → j < l.chunk → get_or l.lines.cuts.now j 0 ≤ l.least
