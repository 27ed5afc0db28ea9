use Rattle.std.proofs.Common.{length, ◌-◌, ◌≡◌, ◌≤◌, take, false}
use Rattle.std.specs.Io.KnownBytes.{Appends}
use Rattle.seq_report.proofs.sink.put_all.Given as goal

abbrev pub invariant-loop-taken : goal.invariant-loop-taken
invariant-loop-taken g l = (l.taken ≤ length l.bytes) × (g.S.Sink.has_failed l.sink ≡ false) × Appends (g.S.Sink.contents l.initial.sink) (g.S.Sink.contents l.sink) (take l.taken l.bytes)

abbrev pub decreases-loop-taken : goal.decreases-loop-taken
decreases-loop-taken g l = length l.bytes - l.taken
