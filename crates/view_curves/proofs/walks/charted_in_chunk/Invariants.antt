use Rattle.std.proofs.Common.{◌≡◌, ◌-◌, ◌<◌, ℕ, length, map}
use Rattle.std.specs.List.{range_with_len}
use Rattle.port_call.specs.Views.{case_in_view}
use Rattle.seq_report.specs.Sums.{IsSumAt}
use Rattle.worst_values.specs.Findings.{unmet_at, worst_over}
use Rattle.worst_values.specs.Rows.{row_of}
use Rattle.view_curves.specs.Series.{plotted_in}
use Rattle.view_curves.proofs.walks.charted_in_chunk.Given as goal

abbrev pub invariant-loop-k : goal.invariant-loop-k
invariant-loop-k l = record {
  length : length l.findings.rows ≡ 14;
  each : (j : ℕ) → j < 14 → row_of l.findings.rows j ≡ worst_over (case_in_view l.case) (range_with_len l.chunk.start (l.k - l.chunk.start)) j;
  unmet : l.findings.unmet ≡ map (unmet_at (case_in_view l.case)) (range_with_len l.chunk.start (l.k - l.chunk.start));
  plotted : l.plotted.items ≡ map (plotted_in (case_in_view l.case)) (range_with_len l.chunk.start (l.k - l.chunk.start));
  sum : IsSumAt (case_in_view l.case) l.k l.sum;
}
