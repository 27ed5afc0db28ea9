use Rattle.std.proofs.Common.{◌≡◌, ◌∙◌, ◌+◌, ◌++◌, ◌<◌, ℕ, List, length, map, flat_map, get_or, ap, sym, arith}
use Rattle.std.specs.List.{range_with_len}
use Rattle.std.proofs.lemmas.List.FromFn.{get_or-map-range_with_len, length-map-range_with_len}
use Rattle.port_call.specs.Views.{case_in_view}
use Rattle.running_sums.specs.Lines.{chunk_of}
use Rattle.worst_values.specs.Findings.{all_lines, unmet_at, worst_over}
use Rattle.worst_values.specs.Rows.{row_of}
use Rattle.worst_values.specs.Worst.{joined}
use Rattle.worst_values.proofs.FirstLemmas.{few_lines}
use Rattle.worst_values.proofs.GatherLemmas.{all_chunks, over_chunks, unmet_chunks}
use Rattle.worst_values.proofs.WorstLemmas.{worst_none}
use Rattle.view_curves.specs.declared.charted.Charted.{Charted}
use Rattle.view_curves.specs.Series.{plotted_in}
use Rattle.view_curves.proofs.SeriesLemmas.{charted_by, chunk_charted, plotted_chunks}
use Rattle.view_curves.proofs.charted.charted_in.Goals as goal

pub loop-part-init : goal.loop-part-init
loop-part-init g c = record {
  length = c.new-findings.ensures.length;
  each = λ j low. c.new-findings.ensures.none j ∙ sym worst_none;
  unmet = c.new-findings.ensures.unmet;
  plotted = c.in_ok-series.ensures;
}

pub loop-part-preserved : goal.loop-part-preserved
loop-part-preserved g c =
    let lines = c.args.lines.now in
    let case = case_in_view lines.case in
    let ends = lines.cuts.now in
    let inv = c.loop-part.invariant in
    let i = c.loop-part.part-index in
    let part = c.part-item.result in
    let are = c.deref-part-items.ensures.value ∙ c.in_ok-parts.ensures in
    let inside : i < c.chunks.result = omega (arith, c.loop-part-test.true, ap length are, length-map-range_with_len (chunk_charted case ends) 0 c.chunks.result) in
    let is : part ≡ chunk_charted case ends i = c.part-item.is ∙ ap (λ (l : List Charted). get_or l i part) are ∙ get_or-map-range_with_len (chunk_charted case ends) 0 c.chunks.result i i part inside (omega arith) in
    record {
      length = c.join.ensures.length ∙ inv.length;
      each = λ j low. c.join.ensures.rows j low ∙ (λ k. joined (inv.each j low k) (row_of (is k).findings.rows j)) ∙ over_chunks case ends j i low;
      unmet = c.in_ok-join.ensures.unmet ∙ (λ k. inv.unmet k ++ (is k).findings.unmet) ∙ unmet_chunks case ends i;
      plotted = c.in_ok-append.ensures ∙ (λ k. inv.plotted k ++ (is k).series) ∙ plotted_chunks case ends i;
    }

pub returns-clause-made : goal.returns-clause-made
returns-clause-made g c =
    let lines = c.args.lines.now in
    let case = case_in_view lines.case in
    let ends = lines.cuts.now in
    let inv = c.loop-part.invariant in
    let are = c.deref-part-items.ensures.value ∙ c.in_ok-parts.ensures in
    let long : c.loop-part.part-index ≡ length ends = omega (arith, c.loop-part-test.false, ap length are, length-map-range_with_len (chunk_charted case ends) 0 c.chunks.result, c.chunks.ensures) in
    let whole = ap (λ (n : ℕ). flat_map (chunk_of ends) (range_with_len 0 n)) long ∙ all_chunks case ends lines.cut in
    charted_by case (all_lines case) (record { findings = c.loop-part.findings; series = c.loop-part.series }) inv.length
    (λ j low. inv.each j low ∙ ap (λ (ks : List ℕ). worst_over case ks j) whole)
    (inv.unmet ∙ ap (map (unmet_at case)) whole)
    (inv.plotted ∙ ap (map (plotted_in case)) whole)

pub returns-clause-few : goal.returns-clause-few
returns-clause-few g c = few_lines (case_in_view c.args.lines.now.case) c.loop-part.findings c.args.lines.now.case.ready (ap (λ (d : Charted). d.findings) (returns-clause-made g c))
