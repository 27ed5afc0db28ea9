use Rattle.std.proofs.Common.{◌≡◌, ◌∙◌, ◌+◌, ◌-◌, ◌++◌, [], ◌∷◌, ℕ, map, ap, sym, arith}
use Rattle.std.specs.List.{range_with_len}
use Rattle.std.proofs.lemmas.List.FromFn.{map-range_with_len_more}
use Rattle.moment_sums.specs.Kept.{values}
use Rattle.port_call.specs.Views.{case_in_view}
use Rattle.seq_report.specs.Cases.{lines_in}
use Rattle.worst_values.specs.Findings.{unmet_at, worst_over}
use Rattle.worst_values.specs.Worst.{joined, worst_of}
use Rattle.worst_values.proofs.GatherLemmas.{candidates_here, over_more, over_none, unmet_here, unmet_none}
use Rattle.view_curves.specs.Series.{plotted_in}
use Rattle.view_curves.proofs.SeriesLemmas.{charted_by, plotted_here, plotted_none}
use Rattle.view_curves.proofs.walks.charted_in_chunk.Goals as goal

pub loop-k-init : goal.loop-k-init
loop-k-init c =
    let case = case_in_view c.args.case in
    let start = c.args.chunk.now.start in
    record {
      length = c.new-findings.ensures.length;
      each = λ j low. c.new-findings.ensures.none j ∙ sym (over_none case start j);
      unmet = c.new-findings.ensures.unmet ∙ sym (unmet_none case start);
      plotted = c.in_ok-plotted.ensures.items ∙ sym (plotted_none case start);
      sum = c.requires.chunk.sum;
    }

pub loop-k-preserved : goal.loop-k-preserved
loop-k-preserved c =
    let case = case_in_view c.args.case in
    let ready = c.args.case.ready in
    let k = c.loop-k.k in
    let start = c.args.chunk.now.start in
    let inv = c.loop-k.invariant in
    let n = k - start in
    let here : start + n ≡ k = omega arith in
    let more : n + 1 ≡ k + 1 - start = omega arith in
    let s = values c.loop-k.sum in
    let drawn = c.in_ok-drawn.ensures.plotted ∙ plotted_here case ready k s inv.sum.value in
    record {
      length = c.chart_line.ensures.length ∙ inv.length;
      each = λ j low. c.chart_line.ensures.rows j low
          ∙ (λ i. joined (inv.each j low i) (worst_of (candidates_here case ready j k s inv.sum.value i)))
          ∙ sym (over_more case j start n k here)
          ∙ ap (λ (m : ℕ). worst_over case (range_with_len start m) j) more;
      unmet = c.in_ok-drawn.ensures.unmet
          ∙ (λ i. inv.unmet i ++ unmet_here case ready k s inv.sum.value i ∷ [])
          ∙ sym (map-range_with_len_more (unmet_at case) start n k here)
          ∙ ap (λ (m : ℕ). map (unmet_at case) (range_with_len start m)) more;
      plotted = c.in_ok-push.ensures.items
          ∙ (λ i. inv.plotted i ++ drawn i ∷ [])
          ∙ sym (map-range_with_len_more (plotted_in case) start n k here)
          ∙ ap (λ (m : ℕ). map (plotted_in case) (range_with_len start m)) more;
      sum = c.walk_on.ensures;
    }

pub returns : goal.returns
returns c =
    let case = case_in_view c.args.case in
    let start = c.args.chunk.now.start in
    let inv = c.loop-k.invariant in
    let last : c.loop-k.k - start ≡ c.args.chunk.now.end - start = omega arith in
    charted_by case (lines_in c.args.chunk.now) (record { findings = c.loop-k.findings; series = c.loop-k.plotted.items }) inv.length
    (λ j low. inv.each j low ∙ ap (λ (m : ℕ). worst_over case (range_with_len start m) j) last)
    (inv.unmet ∙ ap (λ (m : ℕ). map (unmet_at case) (range_with_len start m)) last)
    (inv.plotted ∙ ap (λ (m : ℕ). map (plotted_in case) (range_with_len start m)) last)
