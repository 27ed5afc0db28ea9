use Rattle.std.proofs.Common.{◌-◌, ◌≤◌, flat_map, map, length}
use Rattle.std.specs.List.{range_with_len}
use Rattle.port_call.specs.Views.{case_in_view}
use Rattle.running_sums.specs.Lines.{chunk_of}
use Rattle.seq_report.specs.Cases.{line_in}
use Rattle.seq_report.specs.Written.{HasWritten}
use Rattle.view_table.specs.Tables.{IsPart}
use Rattle.view_table.proofs.tables.write_batches.Given as goal

abbrev pub invariant-loop-begin : goal.invariant-loop-begin
invariant-loop-begin g l = record {
  inside : l.begin ≤ l.chunks;
  written : HasWritten (g.O.Write.contents l.fn.out) (g.O.Write.contents l.out)
      (λ text. IsPart l.fn.source.form (map (line_in (case_in_view l.fn.lines.case)) (flat_map (chunk_of l.fn.lines.cuts.now) (range_with_len 0 l.begin))) text l.first);
}

abbrev pub decreases-loop-begin : goal.decreases-loop-begin
decreases-loop-begin g l = l.chunks - l.begin
