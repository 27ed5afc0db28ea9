use Rattle.std.proofs.Common.{◌≡◌, ◌+◌, drop, length}
use Rattle.seq_report.specs.Chunks.{text_in}
use Rattle.seq_report.proofs.complete.bytes_in.Given as goal

abbrev pub invariant-loop-section : goal.invariant-loop-section
invariant-loop-section l = l.bytes + length (text_in (drop l.section-index l.sections)) ≡ length (text_in l.sections)
