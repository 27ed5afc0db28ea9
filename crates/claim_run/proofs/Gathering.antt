-- What workers give back, put together.
use Rattle.std.proofs.Common.{◌≡◌, ◌≢◌, ◌⊎◌, inl, inr, ℕ, suc, ◌+◌, ◌<◌, ◌≤◌, List, [], ◌∷◌, ◌++◌, length, ap, sym, ◌∙◌, refl, subst, arith, true, Option, lt_of_not-le}
use mathlib.Core.Logic.{dite}
use native.Mathlib.Decide.{dec_le}
use Rattle.claim_board.specs.declared.entries.Entry.{Entry}
use Rattle.claim_board.specs.Entries.{Each, total, below, numbers, is, fresh}
use Rattle.claim_board.proofs.Sums.{total-append, each_map, each_append, is_other, below-one}
use Rattle.claim_run.specs.Views.{late}
use Rattle.claim_run.specs.Hands.{HasEnded}
use Rattle.claim_run.specs.Slots.{is_there}
use Rattle.claim_run.specs.Runs.{IsOver, AreOver, IsGivenAll}
use Rattle.claim_run.proofs.Carries.{late_past, below-late}

-- a list of some length has an element
pub pick_any : {A : Type 0} {G : Type 0} (xs : List A) (w : ℕ) → w < length xs → (A → G) → G
pick_any [] w h f = absurd (omega arith)
pick_any (x ∷ xs) w h f = f x

module _ {X : Type 0} (begin : ℕ → ℕ) (find : ℕ → Option ℕ) (value : ℕ → X) (pieces : ℕ) (es : List Entry) (given : List (ℕ × X)) (all : IsGivenAll begin find value pieces es given) where
  pub gift_each : Each (λ (p : ℕ × X). (p.0 < pieces) × (p.1 ≡ value p.0)) given
  gift_each = all.5.each

  pub gift_over : AreOver begin find pieces es
  gift_over = subst (AreOver begin find pieces) (sym all.2) (record {
    each = ((λ low. let past = all.3 in absurd (omega arith)), each_map (IsOver begin find pieces) (λ (e : Entry). e.number < pieces → HasEnded begin find e) all.1 (λ e over low. over.end) all.4);
    past = omega (arith, late_past pieces all.0 all.3);
  })

  pub gift_numbers : (k : ℕ) → k < pieces → numbers (is k) es ≡ total (λ (p : ℕ × X). is k p.0) given
  gift_numbers k low = omega (arith, ap (numbers (is k)) all.2, is_other k all.0 (λ e. let past = all.3 in omega (arith, e, low, past)), all.5.numbers (is k))

pub over_append : (begin : ℕ → ℕ) (find : ℕ → Option ℕ) (pieces : ℕ) (es fs : List Entry) → AreOver begin find pieces es → AreOver begin find pieces fs → AreOver begin find pieces (es ++ fs)
over_append begin find pieces es fs a b = record {
  each = each_append (λ (e : Entry). e.number < pieces → HasEnded begin find e) es fs a.each b.each;
  past = omega (arith, a.past, total-append (λ (e : Entry). late pieces e.number) es fs);
}

-- one more hand is joined, and what came with it is placed
pub filled_on : {X Y : Type 0} (pieces : ℕ) (es fs : List Entry) (given : List (ℕ × X)) (os ps : List (Option Y))
    → ((k : ℕ) → k < pieces → numbers (is k) fs ≡ total (λ (p : ℕ × X). is k p.0) given)
    → ((k : ℕ) → k < pieces → 0 < numbers (is k) es → is_there os k ≡ true)
    → ((k : ℕ) → k < pieces → (is_there os k ≡ true) ⊎ (0 < total (λ (p : ℕ × X). is k p.0) given) → is_there ps k ≡ true)
    → (k : ℕ) → k < pieces → 0 < numbers (is k) (es ++ fs) → is_there ps k ≡ true
filled_on {X = X} pieces es fs given os ps same was placed k low some = dite (dec_le 1 (numbers (is k) es))
    (λ mine. placed k low (inl (was k low mine)))
    (λ not. let lt = lt_of_not-le not in
    let other : 0 < total (λ (p : ℕ × X). is k p.0) given = omega (arith, some, lt, same k low, total-append (λ (e : Entry). is k e.number) es fs) in
    placed k low (inr other))

-- a hand that has each number below next, and some number past the last chunk, has each chunk's
pub each_number : (pieces next : ℕ) (es : List Entry) → ((f : ℕ → ℕ) → total (numbers f) (es ∷ []) ≡ below f next) → 0 < numbers (late pieces) es → (k : ℕ) → k < pieces → 0 < numbers (is k) es
each_number pieces next es counted past k low = dite (dec_le next pieces)
    (λ le. absurd (omega (arith, past, counted (late pieces), below-late pieces next le)))
    (λ not. let lt = lt_of_not-le not in omega (arith, counted (is k), below-one k next (omega (arith, lt, low))))
