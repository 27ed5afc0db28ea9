-- The least step that fails in any chunk is the first of the report that fails.
use Rattle.std.proofs.Common.{◌≡◌, ◌≢◌, ◌∙◌, ℕ, zero, suc, ◌+◌, ◌-◌, ◌<◌, ◌≤◌, List, length, map, get_or, Option, None, Some, option_map, refl, sym, ap, subst, arith, lt_of_not-le}
use Rattle.std.specs.List.{range_with_len}
use Rattle.std.specs.Option.{option_or}
use mathlib.Core.Logic.{dite}
use native.Mathlib.Decide.{dec_le, ℕ_discrete}
use Rattle.prefix_scan.specs.Cut.{start_of, Divides}
use Rattle.criteria.specs.declared.criterion.Criterion.{Criterion}
use Rattle.claim_board.specs.Claims.{IsLeastFound}
use Rattle.port_call.specs.Cases.{CaseRecord}
use Rattle.seq_report.specs.Cases.{IsFirstStep, first_step_in, line_in, outcome_in}
use Rattle.running_sums.specs.Lines.{chunk_of}
use Rattle.seq_report.specs.Chunks.{first_in}
use Rattle.seq_report.specs.Firsts.{first_within}
use Rattle.seq_report.specs.Refusal.{Outcome}
use Rattle.seq_report.specs.Report.{first_of}
use Rattle.seq_report.proofs.ChunkLemmas.{part_at, parts_whole}

-- chunks begin in their order
starts_rise : (ends : List ℕ) (len : ℕ) → Divides ends len → (a n : ℕ) → a + n ≤ length ends → start_of ends a ≤ start_of ends (a + n)
starts_rise ends len d a zero h = let same : a ≡ a + 0 = omega arith in subst (λ k. start_of ends a ≤ start_of ends k) same (omega arith)
starts_rise ends len d a (suc n) h =
    let next : suc (a + n) ≡ a + suc n = omega arith in
    let rises : start_of ends (a + n) < get_or ends (a + n) 0 = d.rising (a + n) (omega arith) in
    let so_far = starts_rise ends len d a n (omega arith) in
    subst (λ k. start_of ends a ≤ start_of ends k) next (let h : start_of ends a ≤ get_or ends (a + n) 0 = omega (arith, rises, so_far) in h)

no_step : (o : Option (ℕ × Criterion)) → option_map (λ first. first.0) o ≡ None → o ≡ None
no_step None is = refl
no_step (Some p) is = absurd (cc)

a_step : (o : Option (ℕ × Criterion)) (l : ℕ) → option_map (λ first. first.0) o ≡ Some l → (p : ℕ × Criterion) × (o ≡ Some p) × (p.0 ≡ l)
a_step None l is = absurd (cc)
a_step (Some p) l is = (p, refl, cc)

module _ (case : CaseRecord) (ends : List ℕ) (d : Divides ends (length case.sequence.ops + 1)) where
  abbrev first_at : ℕ → Option (ℕ × Criterion)
  first_at c = first_of (map (line_in case) (chunk_of ends c))

  -- the first of the report is that of the first chunk that has one
  whole_first : first_in (map (part_at case ends) (range_with_len 0 (length ends))) ≡ (outcome_in case).summary.first
  whole_first = ap (λ (o : Outcome). o.summary.first) (parts_whole case ends d (map (part_at case ends) (range_with_len 0 (length ends))) (length case.sequence.ops + 1) refl refl)

  none_in : (n a : ℕ) → ((c : ℕ) → a ≤ c → c < a + n → first_at c ≡ None) → first_in (map (part_at case ends) (range_with_len a n)) ≡ None
  none_in zero a each = refl
  none_in (suc n) a each =
      ap (λ o. option_or o (first_in (map (part_at case ends) (range_with_len (a + 1) n)))) (each a (omega arith) (omega arith))
      ∙ none_in n (a + 1) (λ c low high. each c (omega (arith, low)) (omega (arith, high)))

  some_in : (n a c : ℕ) (p : ℕ × Criterion) → a ≤ c → c < a + n → ((j : ℕ) → a ≤ j → j < c → first_at j ≡ None) → first_at c ≡ Some p
      → first_in (map (part_at case ends) (range_with_len a n)) ≡ Some p
  some_in zero a c p low high before here = absurd (omega arith)
  some_in (suc n) a c p low high before here =
      dite (ℕ_discrete a c)
      (λ same. ap (λ o. option_or o (first_in (map (part_at case ends) (range_with_len (a + 1) n)))) (ap first_at same ∙ here))
      (λ other.
      let lower : a < c = let ne : a ≢ c = other in omega (arith, low, ne) in
      ap (λ o. option_or o (first_in (map (part_at case ends) (range_with_len (a + 1) n)))) (before a (omega arith) lower)
      ∙ some_in n (a + 1) c p (omega (arith, lower)) (omega (arith, high)) (λ j from to. before j (omega (arith, from)) to) here)

  pub none_first : IsLeastFound None (first_step_in case ends) (length ends) → None ≡ (outcome_in case).summary.first
  none_first none = sym (none_in (length ends) 0 (λ c low high. no_step (first_at c) (none c (omega (arith, high))))) ∙ whole_first

  -- the lines of a chunk lie between its ends
  first_inside : (c : ℕ) (p : ℕ × Criterion) → c < length ends → first_at c ≡ Some p → (start_of ends c ≤ p.0) × (p.0 < get_or ends c 0)
  first_inside c p low is =
      let rises : start_of ends c < get_or ends c 0 = d.rising c low in
      let h = first_within case (get_or ends c 0 - start_of ends c) (start_of ends c) p is in
      (h.0, omega (arith, h.1, rises))

  module _ (l : ℕ) (least : IsFirstStep case ends l) where
    -- a chunk that ends at or before the least step has no failing line
    no_before : (j : ℕ) → j < length ends → get_or ends j 0 ≤ l → (o : Option (ℕ × Criterion)) → first_at j ≡ o → o ≡ None
    no_before j low past None is = refl
    no_before j low past (Some p) is =
        let inside = first_inside j p low is in
        let most = least.1 j p.0 low (ap (option_map (λ first. first.0)) is) in
        absurd (omega (arith, inside.1, past, most))

    -- the chunk that has the least step
    pub chunk_with_first : (c : ℕ) → c < length ends → ((j : ℕ) → j < c → get_or ends j 0 ≤ l) → l < get_or ends c 0 → first_at c ≡ (outcome_in case).summary.first
    chunk_with_first c low before here =
        let k = least.0.0 in
        let some = a_step (first_at k) l least.0.2 in
        let inside = first_inside k some.0 least.0.1 some.1 in
        let not_before : c ≤ k = dite (dec_le c k) (λ h. h) (λ not. let lt = lt_of_not-le not in absurd (omega (arith, before k lt, inside.1, some.2))) in
        let not_behind : k ≤ c = dite (dec_le k c) (λ h. h) (λ not.
        let lt = lt_of_not-le not in
        let from : suc c + (k - suc c) ≡ k = omega (arith, lt) in
        let rises = starts_rise ends (length case.sequence.ops + 1) d (suc c) (k - suc c) (omega (arith, lt, least.0.1)) in
        let on : get_or ends c 0 ≤ start_of ends k = subst (λ m. get_or ends c 0 ≤ start_of ends m) from rises in
        absurd (omega (arith, here, on, inside.0, some.2))) in
        let same : k ≡ c = omega (arith, not_before, not_behind) in
        let is : first_at c ≡ Some some.0 = ap first_at (sym same) ∙ some.1 in
        is ∙ sym (some_in (length ends) 0 c some.0 (omega arith) (omega (arith, low)) (λ j from to. no_before j (omega (arith, to, low)) (before j to) (first_at j) refl) is) ∙ whole_first

    pub some_chunk : ((j : ℕ) → j < length ends → get_or ends j 0 ≤ l) → ⊥
    some_chunk past =
        let k = least.0.0 in
        let some = a_step (first_at k) l least.0.2 in
        let inside = first_inside k some.0 least.0.1 some.1 in
        omega (arith, past k least.0.1, inside.1, some.2)
