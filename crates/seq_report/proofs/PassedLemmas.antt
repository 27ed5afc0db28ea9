-- Lines that pass, and the first that fails behind them.
use Rattle.std.proofs.Common.{◌≡◌, ◌∙◌, ◌≢◌, ℕ, zero, suc, ◌+◌, ◌<◌, ◌≤◌, length, map, Option, None, Some, option_map, refl, sym, ap, subst, arith}
use Rattle.std.specs.List.{range_with_len}
use Rattle.std.specs.Option.{option_or}
use mathlib.Core.Logic.{dite}
use native.Mathlib.Decide.{ℕ_discrete}
use Rattle.criteria.specs.declared.criterion.Criterion.{Criterion}
use Rattle.port_call.specs.Cases.{CaseRecord}
use Rattle.seq_report.specs.Cases.{ArePassed, line_in, outcome_in, passed_before}
use Rattle.seq_report.specs.Firsts.{first_within}
use Rattle.seq_report.specs.Report.{failure_of, first_failed, first_of}

module _ (case : CaseRecord) where
  abbrev first_from : ℕ → ℕ → Option (ℕ × Criterion)
  first_from a n = first_of (map (line_in case) (range_with_len a n))

  -- the first that fails of some lines is that of the lines behind those that pass
  pub first_behind : (n a m : ℕ) → ((k : ℕ) → a ≤ k → k < a + n → failure_of (line_in case k).step ≡ None) → first_from a (n + m) ≡ first_from (a + n) m
  first_behind zero a m each =
      let here : a ≡ a + 0 = omega arith in
      let many : 0 + m ≡ m = omega arith in
      λ j. first_from (here j) (many j)
  first_behind (suc n) a m each =
      let here : a + 1 + n ≡ a + suc n = omega arith in
      let many : suc n + m ≡ suc (n + m) = omega arith in
      ap (first_from a) many
      ∙ ap (λ o. option_or o (first_from (a + 1) (n + m))) (each a (omega arith) (omega arith))
      ∙ first_behind n (a + 1) m (λ k low high. each k (omega (arith, low)) (omega (arith, high)))
      ∙ ap (λ b. first_from b m) here

  -- none fails before the first that does
  pub pass_before : (n a : ℕ) (o : Option (ℕ × Criterion)) → first_from a n ≡ o → (k : ℕ) → a ≤ k → k < a + n → k < passed_before o (a + n) → failure_of (line_in case k).step ≡ None
  pass_before zero a o is k low high less = absurd (omega (arith, low, high))
  pass_before (suc n) a o is k low high less = by (failure_of (line_in case a).step) refl (pass_before n (a + 1) o) where
    place : (p : ℕ × Criterion) (c : Option Criterion) → option_map (λ criterion. (a, criterion)) c ≡ Some p → p.0 ≡ a
    place p None h = absurd (cc)
    place p (Some criterion) h = cc

    by : (f : Option (ℕ × Criterion)) → failure_of (line_in case a).step ≡ f
        → (first_from (a + 1) n ≡ o → (j : ℕ) → a + 1 ≤ j → j < a + 1 + n → j < passed_before o (a + 1 + n) → failure_of (line_in case j).step ≡ None)
        → failure_of (line_in case k).step ≡ None
    by None e more =
        dite (ℕ_discrete a k)
        (λ same. ap (λ j. failure_of (line_in case j).step) (sym same) ∙ e)
        (λ other.
        let ne : a ≢ k = other in
        let here : a + suc n ≡ a + 1 + n = omega arith in
        let rest : first_from (a + 1) n ≡ o = ap (λ f. option_or f (first_from (a + 1) n)) (sym e) ∙ is in
        more rest k (omega (arith, low, ne)) (omega (arith, high)) (subst (λ b. k < passed_before o b) here less))
    by (Some p) e more =
        let first : o ≡ Some p = sym is ∙ ap (λ f. option_or f (first_from (a + 1) n)) e in
        let at : p.0 ≡ a = place p (first_failed (line_in case a).step.judgement) e in
        let below : k < p.0 = subst (λ q. k < passed_before q (a + suc n)) first less in
        absurd (omega (arith, below, at, low))

  pub all_passed : ArePassed case (passed_before (outcome_in case).summary.first (suc (length case.sequence.ops)))
  all_passed k less = by (outcome_in case).summary.first refl less where
    by : (o : Option (ℕ × Criterion)) → (outcome_in case).summary.first ≡ o → k < passed_before o (suc (length case.sequence.ops)) → failure_of (line_in case k).step ≡ None
    by None is low = pass_before (suc (length case.sequence.ops)) 0 None is k (omega arith) (omega (arith, low)) (let next : k < 0 + suc (length case.sequence.ops) = omega (arith, low) in next)
    by (Some p) is low =
        let inside = first_within case (suc (length case.sequence.ops)) 0 p is in
        pass_before (suc (length case.sequence.ops)) 0 (Some p) is k (omega arith) (omega (arith, low, inside.1)) low

  -- nothing fails where all lines pass
  pub none_fails : ArePassed case (suc (length case.sequence.ops)) → None ≡ (outcome_in case).summary.first
  none_fails each =
      let n = length case.sequence.ops in
      let all : suc n + 0 ≡ suc n = omega arith in
      sym (ap (λ m. first_from 0 m) (sym all) ∙ first_behind (suc n) 0 0 (λ k low high. each k (omega (arith, high))))
