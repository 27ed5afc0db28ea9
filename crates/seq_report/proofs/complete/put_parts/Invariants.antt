use Rattle.std.proofs.Common.{◌≡◌, ◌≤◌, ◌++◌, drop, take, length, false}
use Rattle.std.specs.Io.KnownBytes.{Appends}
use Rattle.seq_report.specs.Chunks.{text_in}
use Rattle.seq_report.proofs.complete.put_parts.Given as goal

abbrev pub invariant-loop-section : goal.invariant-loop-section
invariant-loop-section g l =
    let whole = l.heading ++ (text_in l.sections ++ l.last) in
    (l.put ≤ length whole)
    × (drop l.put whole ≡ text_in (drop l.section-index l.sections) ++ l.last)
    × (g.S.Sink.has_failed l.sink ≡ false)
    × Appends (g.S.Sink.contents l.fn.sink) (g.S.Sink.contents l.sink) (take l.put whole)
