-- What is known of views, said of the hands that they show, and sums over views.
use Rattle.std.proofs.Common.{◌≡◌, ◌≢◌, ◌⊎◌, ℕ, zero, suc, ◌+◌, ◌<◌, ◌≤◌, List, [], ◌∷◌, ◌++◌, set, sym, refl, ap, ◌∙◌, subst, ⊎_elim, arith, Some, cond, lt_of_not-le}
use Rattle.std.specs.Prelude.{slice_get, nat_lt}
use Rattle.std.proofs.lemmas.List.{map-set, map-append}
use Rattle.std.proofs.lemmas.Bool.Decides.{nat_tests}
use mathlib.Core.Logic.{dite}
use native.Mathlib.Decide.{dec_le}
use mathlib.Core.Option.{some, some-injective, some-ne-none}
use lib.ListN.{get_elem?}
use Rattle.atomic_table.proofs.Lists.{at_set, at_snoc}
use Rattle.claim_board.specs.declared.entries.Entry.{Entry}
use Rattle.claim_board.specs.Entries.{total, numbers, below}
use Rattle.claim_board.proofs.Sums.{total-set}
use Rattle.claim_run.specs.declared.views.View.{View}
use Rattle.claim_run.specs.Views.{hands_of, late}
use Rattle.claim_run.specs.Rule.{Views}

-- the two ways to read a place of a list
pub got : {A : Type 0} (xs : List A) (i : ℕ) (x : A) → get_elem? xs i ≡ some x → slice_get xs i ≡ Some x
got [] i x at = absurd (some-ne-none x (sym at))
got (y ∷ xs) zero x at = ap Some (some-injective y x at)
got (y ∷ xs) (suc i) x at = got xs i x at

pub hand_at : (views : List View) (id : ℕ) (v : View) → get_elem? views id ≡ some v → slice_get (hands_of views) id ≡ Some v.entries
hand_at [] id v at = absurd (some-ne-none v (sym at))
hand_at (u ∷ views) zero v at = ap (λ (x : View). Some x.entries) (some-injective u v at)
hand_at (u ∷ views) (suc id) v at = hand_at views id v at

pub hands-set : (views : List View) (id : ℕ) (v : View) → hands_of (set views id v) ≡ set (hands_of views) id v.entries
hands-set views id v = map-set (λ (x : View). x.entries) views id v

pub hands-append : (views more : List View) → hands_of (views ++ more) ≡ hands_of views ++ hands_of more
hands-append [] more = refl
hands-append (v ∷ views) more = ap (λ l. v.entries ∷ l) (hands-append views more)

pub views_set : (F : View → Type 0) (views : List View) (id : ℕ) (w : View) → F w → Views F views → Views F (set views id w)
views_set F views id w mine all j u at =
    ⊎_elim
    (λ (x : (j ≡ id) × (w ≡ u)). subst F x.1 mine)
    (λ (x : (j ≢ id) × (get_elem? views j ≡ some u)). all j u x.1)
    (at_set views id j w u at)

pub views_append : (F : View → Type 0) (views : List View) (w : View) → F w → Views F views → Views F (views ++ w ∷ [])
views_append F views w mine all j u at = ⊎_elim (λ was. all j u was) (λ (same : w ≡ u). subst F same mine) (at_snoc views w u j at)

-- a sum over views after one was replaced
pub staff-set : (g : View → ℕ) (views : List View) (id : ℕ) (v w : View) → get_elem? views id ≡ some v → total g (set views id w) + g v ≡ total g views + g w
staff-set g views id v w at = total-set g views id v w (got views id v at)

pub total-hands : (g : List Entry → ℕ) (views : List View) → total g (hands_of views) ≡ total (λ (v : View). g v.entries) views
total-hands g [] = refl
total-hands g (v ∷ views) = omega (arith, total-hands g views)

module _ {A : Type 0} (g : A → ℕ) where
  pub term_le : (xs : List A) (j : ℕ) (x : A) → get_elem? xs j ≡ some x → g x ≤ total g xs
  term_le [] j x at = absurd (some-ne-none x (sym at))
  term_le (y ∷ xs) zero x at = omega (arith, ap g (some-injective y x at))
  term_le (y ∷ xs) (suc j) x at = omega (arith, term_le xs j x at)

  -- two places together are at most the sum
  pub terms_le : (xs : List A) (j k : ℕ) (x y : A) → k ≢ j → get_elem? xs j ≡ some x → get_elem? xs k ≡ some y → g x + g y ≤ total g xs
  terms_le [] j k x y apart first second = absurd (some-ne-none x (sym first))
  terms_le (z ∷ xs) zero zero x y apart first second = absurd (apart refl)
  terms_le (z ∷ xs) zero (suc k) x y apart first second = omega (arith, ap g (some-injective z x first), term_le xs k y second)
  terms_le (z ∷ xs) (suc j) zero x y apart first second = omega (arith, ap g (some-injective z y second), term_le xs j x first)
  terms_le (z ∷ xs) (suc j) (suc k) x y apart first second = omega (arith, terms_le xs j k x y (λ h. apart (ap suc h)) first second)

  -- a sum where each is at most that of another
  pub total-le : (h : A → ℕ) (xs : List A) → ((j : ℕ) (x : A) → get_elem? xs j ≡ some x → g x ≤ h x) → total g xs ≤ total h xs
  total-le h [] le = omega arith
  total-le h (x ∷ xs) le = omega (arith, le 0 x refl, total-le h xs (λ j y at. le (suc j) y at))

  all_zero : (xs : List A) → ((k : ℕ) (x : A) → get_elem? xs k ≡ some x → g x ≡ 0) → total g xs ≡ 0
  all_zero [] none = refl
  all_zero (x ∷ xs) none = omega (arith, none 0 x refl, all_zero xs (λ k y at. none (suc k) y at))

  -- a sum of which all but one are 0
  pub total-only : (xs : List A) (j : ℕ) (x : A) → get_elem? xs j ≡ some x → ((k : ℕ) (y : A) → k ≢ j → get_elem? xs k ≡ some y → g y ≡ 0) → total g xs ≡ g x
  total-only [] j x at none = absurd (some-ne-none x (sym at))
  total-only (y ∷ xs) zero x at none = omega (arith, ap g (some-injective y x at), all_zero xs (λ k z there. none (suc k) z (λ h. omega arith) there))
  total-only (y ∷ xs) (suc j) x at none = omega (arith, none 0 y (λ h. omega arith) refl, total-only xs j x at (λ k z apart there. none (suc k) z (λ h. apart (omega arith)) there))

pub late_past : (pieces n : ℕ) → pieces ≤ n → late pieces n ≡ 1
late_past pieces n h = grind (arith, nat_tests)

pub late_low : (pieces n : ℕ) → n < pieces → late pieces n ≡ 0
late_low pieces n h = grind (arith, nat_tests)

pub late_le : (pieces n : ℕ) → late pieces n ≤ 1
late_le pieces n = grind (arith, nat_tests)

-- of the numbers below n all but those past the last chunk are chunks'
pub late_below : (pieces n : ℕ) → n ≤ pieces + below (late pieces) n
late_below pieces zero = omega arith
late_below pieces (suc n) =
    let before = late_below pieces n in
    dite (dec_le pieces n) (λ past. omega (arith, late_past pieces n past)) (λ not_past. let lt = lt_of_not-le not_past in omega arith)

pub below-late : (pieces n : ℕ) → n ≤ pieces → below (late pieces) n ≡ 0
below-late pieces zero h = refl
below-late pieces (suc n) h = omega (arith, below-late pieces n (omega arith), late_low pieces n (omega arith))
