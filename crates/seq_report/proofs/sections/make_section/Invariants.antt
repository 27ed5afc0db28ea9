use Rattle.std.proofs.Common.{◌≡◌, ◌-◌, map}
use Rattle.std.specs.List.{range_with_len}
use Rattle.port_call.specs.Views.{case_in_view}
use Rattle.seq_report.specs.Sums.{IsSumAt}
use Rattle.seq_report.specs.Cases.{line_in}
use Rattle.seq_report.specs.Chunks.{part_of}
use Rattle.seq_report.proofs.sections.make_section.Given as goal

abbrev pub invariant-loop-k : goal.invariant-loop-k
invariant-loop-k l = record {
  lines : l.section ≡ part_of (map (line_in (case_in_view l.case)) (range_with_len l.chunk.start (l.k - l.chunk.start)));
  sum : IsSumAt (case_in_view l.case) l.k l.sum;
}
