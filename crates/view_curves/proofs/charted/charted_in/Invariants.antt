use Rattle.std.proofs.Common.{◌≡◌, ◌<◌, ℕ, length, map, flat_map}
use Rattle.std.specs.List.{range_with_len}
use Rattle.port_call.specs.Views.{case_in_view}
use Rattle.running_sums.specs.Lines.{chunk_of}
use Rattle.worst_values.specs.Findings.{unmet_at, worst_over}
use Rattle.worst_values.specs.Rows.{row_of}
use Rattle.view_curves.specs.Series.{plotted_in}
use Rattle.view_curves.proofs.charted.charted_in.Given as goal

abbrev pub invariant-loop-part : goal.invariant-loop-part
invariant-loop-part g l = record {
  length : length l.findings.rows ≡ 14;
  each : (j : ℕ) → j < 14 → row_of l.findings.rows j ≡ worst_over (case_in_view l.fn.lines.case) (flat_map (chunk_of l.fn.lines.cuts.now) (range_with_len 0 l.part-index)) j;
  unmet : l.findings.unmet ≡ map (unmet_at (case_in_view l.fn.lines.case)) (flat_map (chunk_of l.fn.lines.cuts.now) (range_with_len 0 l.part-index));
  plotted : l.series ≡ map (plotted_in (case_in_view l.fn.lines.case)) (flat_map (chunk_of l.fn.lines.cuts.now) (range_with_len 0 l.part-index));
}
