use Rattle.std.proofs.Common.{◌-◌, map, string_bytes}
use Rattle.std.specs.List.{range_with_len}
use Rattle.port_call.specs.Views.{case_in_view}
use Rattle.seq_report.specs.Sums.{IsSumAt}
use Rattle.seq_report.specs.Cases.{line_in}
use Rattle.view_table.specs.Tables.{IsPart}
use Rattle.view_table.proofs.lines.part_of.Given as goal

abbrev pub invariant-loop-k : goal.invariant-loop-k
invariant-loop-k l = record {
  part : IsPart l.source.form (map (line_in (case_in_view l.case)) (range_with_len l.chunk.start (l.k - l.chunk.start))) (string_bytes l.text) l.first;
  sum : IsSumAt (case_in_view l.case) l.k l.sum;
}
