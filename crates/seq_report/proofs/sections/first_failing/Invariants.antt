use Rattle.std.proofs.Common.{◌≡◌, ◌-◌, map}
use Rattle.std.specs.List.{range_with_len}
use Rattle.port_call.specs.Views.{case_in_view}
use Rattle.seq_report.specs.Sums.{IsSumAt}
use Rattle.seq_report.specs.Cases.{line_in}
use Rattle.seq_report.specs.Report.{first_of}
use Rattle.seq_report.proofs.sections.first_failing.Given as goal

abbrev pub invariant-loop-k : goal.invariant-loop-k
invariant-loop-k l = record {
  first : first_of (map (line_in (case_in_view l.case)) (range_with_len l.chunk.start (l.chunk.end - l.chunk.start))) ≡ first_of (map (line_in (case_in_view l.case)) (range_with_len l.k (l.chunk.end - l.k)));
  sum : IsSumAt (case_in_view l.case) l.k l.sum;
}
