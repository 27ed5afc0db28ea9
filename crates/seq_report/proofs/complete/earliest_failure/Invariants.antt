use Rattle.std.proofs.Common.{◌≡◌, drop}
use Rattle.std.specs.Option.{option_or}
use Rattle.seq_report.specs.Chunks.{first_in}
use Rattle.seq_report.proofs.complete.earliest_failure.Given as goal

abbrev pub invariant-loop-section : goal.invariant-loop-section
invariant-loop-section l = option_or l.first (first_in (drop l.section-index l.sections)) ≡ first_in l.sections
