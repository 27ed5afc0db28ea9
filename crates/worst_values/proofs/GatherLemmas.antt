-- One line after another, and chunk after chunk: what is found over all of them.
use Rattle.std.proofs.Common.{◌≡◌, ◌∙◌, ℕ, zero, suc, ◌+◌, ◌-◌, ◌<◌, ◌≤◌, List, [], ◌∷◌, ◌++◌, Bool, length, map, flat_map, get_or, Option, None, Some, refl, sym, ap, subst, arith}
use Rattle.std.specs.List.{fold, range_with_len}
use Rattle.std.proofs.lemmas.Grind.{flat_map-append}
use Rattle.std.proofs.lemmas.List.{append-nil, map-append}
use Rattle.std.proofs.lemmas.List.FromFn.{fill_by_all, get_or-map-range_with_len, length-map-range_with_len, map-range_with_len_more}
use Rattle.prefix_scan.specs.Cut.{Divides}
use Rattle.ship_profile.specs.Record.{ProfileRecord}
use Rattle.ship_profile.specs.Ship.{ShipRecord}
use Rattle.moment_sums.specs.Sum.{Sum}
use Rattle.units_core.specs.Ratio.{Ratio}
use Rattle.hydrostat.specs.declared.outside.Outside.{Outside}
use Rattle.strength.specs.declared.loads.Strains.{Strains}
use Rattle.criteria.specs.Assessment.{Assessment, IsOutside, Fails, Passes, assessed}
use Rattle.criteria.specs.Criteria.{Condition}
use Rattle.criteria.specs.declared.criterion.Criterion.{Criterion}
use Rattle.port_call.specs.Cases.{CaseRecord, IsReady}
use Rattle.running_sums.specs.Lines.{chunk_of}
use Rattle.seq_report.specs.Sums.{sum_in}
use Rattle.seq_report.proofs.SumLemmas.{sum_here}
use Rattle.seq_report.proofs.ChunkLemmas.{chunks_whole, range_join}
use Rattle.worst_values.specs.Findings.{all_lines, candidates_at, candidates_by, candidates_with, found_in, found_over, unmet_at, unmet_by, unmet_of, unmet_with, worst_over}
use Rattle.worst_values.specs.Limits.{candidates_of, limit_of}
use Rattle.worst_values.specs.declared.findings.Findings.{Findings}
use Rattle.worst_values.specs.Rows.{row_of}
use Rattle.worst_values.specs.Worst.{Candidate, joined, worst_of}
use Rattle.worst_values.proofs.WorstLemmas.{joined_three, worst_append, worst_none}

-- a condition within the tables, whatever is said of it
pub assessed_candidates : (ship : ShipRecord) (j k : ℕ) (o : Option Criterion) (c : Condition) → candidates_by ship j k (assessed o c) ≡ candidates_of ship c (limit_of j) k
assessed_candidates ship j k None c = refl
assessed_candidates ship j k (Some criterion) c = refl

pub assessed_unmet : (ship : ShipRecord) (o : Option Criterion) (c : Condition) → unmet_by ship (assessed o c) ≡ unmet_of ship c
assessed_unmet ship None c = refl
assessed_unmet ship (Some criterion) c = refl

-- the sum that is kept is that of everything aboard
pub candidates_here : (case : CaseRecord) → IsReady case → (row k : ℕ) (s : Sum) → s ≡ sum_in case k → candidates_with case.profile row k s ≡ candidates_at case row k
unfolding candidates_at
candidates_here case ready row k s is = ap (candidates_with case.profile row k) (is ∙ sum_here case ready k)

pub unmet_here : (case : CaseRecord) → IsReady case → (k : ℕ) (s : Sum) → s ≡ sum_in case k → unmet_with case.profile s ≡ unmet_at case k
unfolding unmet_at
unmet_here case ready k s is = ap (unmet_with case.profile) (is ∙ sum_here case ready k)

-- no line, and one more
pub over_none : (case : CaseRecord) (start row : ℕ) → worst_over case (range_with_len start (start - start)) row ≡ None
over_none case start row =
    let none : start - start ≡ 0 = omega arith in
    ap (λ (n : ℕ). worst_over case (range_with_len start n) row) none ∙ worst_none

pub unmet_none : (case : CaseRecord) (start : ℕ) → map (unmet_at case) (range_with_len start (start - start)) ≡ []
unmet_none case start =
    let none : start - start ≡ 0 = omega arith in
    ap (λ (n : ℕ). map (unmet_at case) (range_with_len start n)) none

pub over_more : (case : CaseRecord) (row start n k : ℕ) → start + n ≡ k
    → worst_over case (range_with_len start (n + 1)) row ≡ joined (worst_over case (range_with_len start n) row) (worst_of (candidates_at case row k))
over_more case row start n k here =
    let f = candidates_at case row in
    ap (λ (l : List ℕ). worst_of (flat_map f l)) (sym (range_join start n k 1 (n + 1) here refl))
    ∙ ap worst_of (flat_map-append f (range_with_len start n) (k ∷ []))
    ∙ worst_append (flat_map f (range_with_len start n)) (f k ++ [])
    ∙ ap (λ (l : List Candidate). joined (worst_over case (range_with_len start n) row) (worst_of l)) (append-nil (f k))

-- rows and lines that are those of some lines are what is found over these
pub found_by : (case : CaseRecord) (ks : List ℕ) (f : Findings) → length f.rows ≡ 14 → ((j : ℕ) → j < 14 → row_of f.rows j ≡ worst_over case ks j)
    → f.unmet ≡ map (unmet_at case) ks → f ≡ found_over case ks
found_by case ks f long each unmet =
    let rows : f.rows ≡ map (worst_over case ks) (range_with_len 0 14) = fill_by_all (worst_over case ks) f.rows 14 None long each in
    λ i. record { rows = rows i; unmet = unmet i }

-- a row of what is found
pub row_over : (case : CaseRecord) (ks : List ℕ) (j : ℕ) → j < 14 → row_of (found_over case ks).rows j ≡ worst_over case ks j
row_over case ks j low = get_or-map-range_with_len (worst_over case ks) 0 14 j j None low (omega arith)

-- chunk by chunk
module _ (case : CaseRecord) (ends : List ℕ) where
  abbrev pub chunk_found : ℕ → Findings
  chunk_found k = found_over case (chunk_of ends k)

  pub over_chunks : (j n : ℕ) → j < 14
      → joined (worst_over case (flat_map (chunk_of ends) (range_with_len 0 n)) j) (row_of (chunk_found n).rows j)
      ≡ worst_over case (flat_map (chunk_of ends) (range_with_len 0 (n + 1))) j
  over_chunks j n low =
      let f = candidates_at case j in
      let before = flat_map (chunk_of ends) (range_with_len 0 n) in
      ap (joined (worst_over case before j)) (row_over case (chunk_of ends n) j low)
      ∙ sym (worst_append (flat_map f before) (flat_map f (chunk_of ends n)))
      ∙ ap worst_of (sym (flat_map-append f before (chunk_of ends n)))
      ∙ ap (λ (l : List ℕ). worst_of (flat_map f (before ++ l))) (sym (append-nil (chunk_of ends n)))
      ∙ ap (λ (l : List ℕ). worst_of (flat_map f l)) (sym (flat_map-append (chunk_of ends) (range_with_len 0 n) (n ∷ [])))
      ∙ ap (λ (l : List ℕ). worst_of (flat_map f (flat_map (chunk_of ends) l))) (range_join 0 n n 1 (n + 1) (omega arith) (omega arith))

  pub unmet_chunks : (n : ℕ) → map (unmet_at case) (flat_map (chunk_of ends) (range_with_len 0 n)) ++ (chunk_found n).unmet
      ≡ map (unmet_at case) (flat_map (chunk_of ends) (range_with_len 0 (n + 1)))
  unmet_chunks n =
      let before = flat_map (chunk_of ends) (range_with_len 0 n) in
      sym (map-append (unmet_at case) before (chunk_of ends n))
      ∙ ap (λ (l : List ℕ). map (unmet_at case) (before ++ l)) (sym (append-nil (chunk_of ends n)))
      ∙ ap (map (unmet_at case)) (sym (flat_map-append (chunk_of ends) (range_with_len 0 n) (n ∷ [])))
      ∙ ap (λ (l : List ℕ). map (unmet_at case) (flat_map (chunk_of ends) l)) (range_join 0 n n 1 (n + 1) (omega arith) (omega arith))

  pub all_chunks : Divides ends (length case.sequence.ops + 1) → flat_map (chunk_of ends) (range_with_len 0 (length ends)) ≡ all_lines case
  all_chunks d =
      let long : length case.sequence.ops + 1 ≡ suc (length case.sequence.ops) = omega arith in
      chunks_whole ends (length case.sequence.ops + 1) d ∙ ap (range_with_len 0) long
