-- Slots that are filled one by one.
use Rattle.std.proofs.Common.{◌≡◌, ◌≢◌, ◌⊎◌, inl, inr, ⊎_elim, ℕ, zero, suc, ◌+◌, ◌<◌, ◌≤◌, List, [], ◌∷◌, ◌++◌, length, set, ap, sym, ◌∙◌, refl, subst, arith, true, Option, Some, None, eq-eqb, ne_eqb, cond, get_or}
use Rattle.std.specs.Prelude.{nat_eq}
use mathlib.Core.Logic.{dite}
use native.Mathlib.Decide.{ℕ_discrete}
use Rattle.claim_board.specs.Entries.{Each, total, is}
use Rattle.claim_run.specs.Slots.{Holds, RightFrom, IsRight, is_there, is_filled}

abbrev pub AreGiven : {X : Type 0} → (ℕ → X) → ℕ → List (ℕ × X) → Type 0
AreGiven {X = X} value n ps = Each (λ (p : ℕ × X). (p.0 < n) × (p.1 ≡ value p.0)) ps

abbrev pub count_of : {X : Type 0} → ℕ → List (ℕ × X) → ℕ
count_of {X = X} k ps = total (λ (p : ℕ × X). is k p.0) ps

module _ {X : Type 0} (value : ℕ → X) where
  pub given_front : (n : ℕ) (ps : List (ℕ × X)) (p : ℕ × X) → AreGiven value n (ps ++ p ∷ []) → AreGiven value n ps × (p.0 < n) × (p.1 ≡ value p.0)
  given_front n [] p g = (tt, g.0.0, g.0.1)
  given_front n (q ∷ ps) p g = let r = given_front n ps p g.1 in ((g.0, r.0), r.1, r.2)

  right_set : (os : List (Option X)) (from k : ℕ) (x : X) → x ≡ value (from + k) → RightFrom value from os → RightFrom value from (set os k (Some x))
  right_set [] from k x is r = tt
  right_set (o ∷ os) from zero x is r = (is ∙ ap value (let e : from + zero ≡ from = omega arith in e), r.1)
  right_set (o ∷ os) from (suc k) x is r = (r.0, right_set os (suc from) k x (is ∙ ap value (let e : from + suc k ≡ suc from + k = omega arith in e)) r.1)

  pub right_placed : (os : List (Option X)) (k : ℕ) (x : X) → x ≡ value k → IsRight value os → IsRight value (set os k (Some x))
  right_placed os k x is r = right_set os 0 k x (is ∙ ap value (let e : k ≡ 0 + k = omega arith in e)) r

pub count-append : {X : Type 0} (k : ℕ) (ps : List (ℕ × X)) (p : ℕ × X) → count_of k (ps ++ p ∷ []) ≡ count_of k ps + is k p.0
count-append k [] p = omega arith
count-append k (q ∷ ps) p = omega (arith, count-append k ps p)

pub there-set : {X : Type 0} (os : List (Option X)) (k j : ℕ) (x : X) → is_there os j ≡ true → is_there (set os k (Some x)) j ≡ true
there-set [] k j x h = h
there-set (o ∷ os) zero zero x h = refl
there-set (o ∷ os) zero (suc j) x h = h
there-set (o ∷ os) (suc k) zero x h = h
there-set (o ∷ os) (suc k) (suc j) x h = there-set os k j x h

pub there-here : {X : Type 0} (os : List (Option X)) (k : ℕ) (x : X) → k < length os → is_there (set os k (Some x)) k ≡ true
there-here [] k x h = absurd (omega arith)
there-here (o ∷ os) zero x h = refl
there-here (o ∷ os) (suc k) x h = there-here os k x (omega arith)

miss : (k j : ℕ) → k ≢ j → is j k ≡ 0
miss k j n = ap (λ b. cond {A = ℕ} b 1 0) (ne_eqb k j n)

pub right_none : {X : Type 0} (value : ℕ → X) (os : List (Option X)) (from : ℕ) → ((k : ℕ) (d : Option X) → k < length os → get_or os k d ≡ None) → RightFrom value from os
right_none value [] from none = tt
right_none value (o ∷ os) from none = (subst (Holds value from) (sym (none 0 o (omega arith))) tt, right_none value os (suc from) (λ k d h. none (suc k) d (omega arith)))

pub next_right : {X : Type 0} (value : ℕ → X) (n : ℕ) (os rest : List (Option X)) (o : Option X) (x : X) → RightFrom value n os → os ≡ o ∷ rest → o ≡ Some x → (x ≡ value n) × RightFrom value (suc n) rest
next_right value n os rest o x r is some = let both = subst (RightFrom value n) is r in (subst (Holds value n) some both.0, both.1)

pub next_full : {X : Type 0} (os rest : List (Option X)) (o : Option X) → ((k : ℕ) → k < length os → is_there os k ≡ true) → os ≡ o ∷ rest → (is_filled o ≡ true) × ((k : ℕ) → k < length rest → is_there rest k ≡ true)
next_full os rest o full is =
    let here = subst (λ (l : List (Option _)). (k : ℕ) → k < length l → is_there l k ≡ true) is full in
    (here 0 (omega arith), λ k h. here (suc k) (omega arith))

-- one more is placed
pub filled_more : {X : Type 0} (os : List (Option X)) (k j : ℕ) (x : X) (ps qs : List (ℕ × X)) → k < length os → qs ≡ ps ++ (k, x) ∷ [] → (is_there os j ≡ true) ⊎ (0 < count_of j qs) → (is_there (set os k (Some x)) j ≡ true) ⊎ (0 < count_of j ps)
filled_more os k j x ps qs low is was = ⊎_elim
    (λ (t : is_there os j ≡ true). inl (there-set os k j x t))
    (λ (c : 0 < count_of j qs). dite (ℕ_discrete k j)
    (λ e. inl (ap (is_there (set os k (Some x))) (sym e) ∙ there-here os k x low))
    (λ n. inr (omega (arith, c, ap (count_of j) is, count-append j ps (k, x), miss k j n))))
    was

pub no_none : {X : Type 0} (o : Option X) → is_filled o ≡ true → o ≡ None → ⊥
no_none None h e = cc
no_none (Some x) h e = cc
