-- The figures that are drawn, line by line and chunk after chunk.
use Rattle.std.proofs.Common.{◌≡◌, ◌∙◌, ℕ, ◌+◌, ◌-◌, ◌<◌, List, [], ◌∷◌, ◌++◌, length, map, flat_map, ℤ, Option, None, Some, refl, sym, ap, arith}
use Rattle.std.specs.List.{range_with_len}
use Rattle.std.proofs.lemmas.Grind.{flat_map-append}
use Rattle.std.proofs.lemmas.List.{append-nil, map-append}
use Rattle.moment_sums.specs.Sum.{Sum}
use Rattle.units_core.specs.declared.frames.Frame.{Frame}
use Rattle.criteria.specs.Assessment.{assessed}
use Rattle.criteria.specs.Criteria.{Condition}
use Rattle.criteria.specs.declared.criterion.Criterion.{Criterion}
use Rattle.criteria.specs.Judgement.{judgement_of, printed_of, rounded}
use Rattle.port_call.specs.Cases.{CaseRecord, IsReady}
use Rattle.running_sums.specs.Lines.{chunk_of}
use Rattle.seq_report.specs.Sums.{sum_in}
use Rattle.seq_report.specs.Report.{Line}
use Rattle.seq_report.proofs.ChunkLemmas.{range_join}
use Rattle.seq_report.proofs.LineLemmas.{line_here}
use Rattle.worst_values.proofs.GatherLemmas.{found_by}
use Rattle.worst_values.specs.Findings.{unmet_at, worst_over}
use Rattle.worst_values.specs.Rows.{row_of}
use Rattle.view_curves.specs.Charted.{charted_over}
use Rattle.view_curves.specs.Series.{plotted_by, plotted_in, plotted_of}
use Rattle.view_curves.specs.declared.charted.Charted.{Charted}

-- the sum that is kept is that of everything aboard
pub plotted_here : (case : CaseRecord) → IsReady case → (k : ℕ) (s : Sum) → s ≡ sum_in case k → plotted_by case.profile.ship.frames (judgement_of case.profile s) ≡ plotted_in case k
unfolding plotted_in
plotted_here case ready k s is = ap (λ (l : Line). plotted_by case.profile.ship.frames l.step.judgement) (line_here case ready k s is)

-- the figures of an exact judgement, whatever it is
pub plotted_assessed : (frames : List Frame) (lbp : ℤ) (o : Option Criterion) (c : Condition) → plotted_by frames (rounded lbp (assessed o c)) ≡ Some (plotted_of frames (printed_of lbp c))
plotted_assessed frames lbp None c = refl
plotted_assessed frames lbp (Some criterion) c = refl

pub plotted_none : (case : CaseRecord) (start : ℕ) → map (plotted_in case) (range_with_len start (start - start)) ≡ []
plotted_none case start =
    let none : start - start ≡ 0 = omega arith in
    ap (λ (n : ℕ). map (plotted_in case) (range_with_len start n)) none

-- what is found and drawn of some lines, part by part
pub charted_by : (case : CaseRecord) (ks : List ℕ) (c : Charted) → length c.findings.rows ≡ 14
    → ((j : ℕ) → j < 14 → row_of c.findings.rows j ≡ worst_over case ks j) → c.findings.unmet ≡ map (unmet_at case) ks
    → c.series ≡ map (plotted_in case) ks → c ≡ charted_over case ks
charted_by case ks c long each unmet plotted = λ i. record { findings = found_by case ks c.findings long each unmet i; series = plotted i }

-- chunk by chunk
module _ (case : CaseRecord) (ends : List ℕ) where
  abbrev pub chunk_charted : ℕ → Charted
  chunk_charted k = charted_over case (chunk_of ends k)

  pub plotted_chunks : (n : ℕ) → map (plotted_in case) (flat_map (chunk_of ends) (range_with_len 0 n)) ++ (chunk_charted n).series
      ≡ map (plotted_in case) (flat_map (chunk_of ends) (range_with_len 0 (n + 1)))
  plotted_chunks n =
      let before = flat_map (chunk_of ends) (range_with_len 0 n) in
      sym (map-append (plotted_in case) before (chunk_of ends n))
      ∙ ap (λ (l : List ℕ). map (plotted_in case) (before ++ l)) (sym (append-nil (chunk_of ends n)))
      ∙ ap (map (plotted_in case)) (sym (flat_map-append (chunk_of ends) (range_with_len 0 n) (n ∷ [])))
      ∙ ap (λ (l : List ℕ). map (plotted_in case) (flat_map (chunk_of ends) l)) (range_join 0 n n 1 (n + 1) (omega arith) (omega arith))
