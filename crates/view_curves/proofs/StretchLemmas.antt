-- What is drawn, condition by condition and stretch by stretch.
use Rattle.std.proofs.Common.{◌≡◌, ◌∙◌, ◌⊎◌, inl, inr, ℕ, zero, suc, ◌+◌, ◌*◌, ◌/◌, ◌<◌, ◌≤◌, ℤ, List, [], ◌∷◌, ◌++◌, length, get_or, is_none, true, false, ◌^◌, Option, None, Some, below_more, add-mul, refl, sym, ap, subst, arith}
use Rattle.std.specs.List.{AllPairs, Contains}
use Rattle.std.proofs.lemmas.List.Elements.{Contains-append_left, Contains-get_or, Contains-push, Contains-push_cases}
use Rattle.std.proofs.lemmas.List.Quantifiers.{all_pairs_push}
use Rattle.std.proofs.lemmas.Nat.{mul-le}
use Rattle.std.proofs.lemmas.Option.{none-some}
use Rattle.view_curves.specs.Decimation.{AreAdded, AreEnds, AreFound, HasFigure, HasNone, HaveEnds, IsDrawn, IsDrawnIn, IsOffered, IsOneOf, IsStretchDrawn, figure_at, start_of}
use Rattle.view_curves.specs.declared.decimation.Ends.{Ends}
use Rattle.view_curves.proofs.Extremes.{greatest_within, least_within}

-- stretches rise, up to the last
pub starts_rise : (b n : ℕ) → start_of b n ≤ start_of (b + 1) n
starts_rise b n =
    let next : (b + 1) * n ≡ b * n + 1 * n = add-mul b 1 n in
    omega (arith, next)

pub start_within : (b n : ℕ) → b ≤ 300 → start_of b n ≤ n
start_within b n low =
    let all : b * n ≤ 300 * n = mul-le b n 300 n low (omega arith) in
    omega (arith, all)

pub product_fits : (b n : ℕ) → b ≤ 300 → n < 2 ^ 64 → b * n < 2 ^ 128
product_fits b n low few =
    let all : b * n ≤ 300 * n = mul-le b n 300 n low (omega arith) in
    omega (arith, all, few)

-- no number is in an empty list, and those of a list are below its end
pub none_in : {A : Type 0} (j : ℕ) → Contains {X = ℕ} [] j → A
none_in j in' = absurd (omega (arith, in'.1))

pub no_pairs : AllPairs (λ (i : ℕ) (j : ℕ). i < j) []
no_pairs = λ i j d low inside. absurd (omega (arith, inside))

-- a condition without a figure, and one with
offered_none : (curve : List (Option ℤ)) (k : ℕ) (ks : List ℕ) → figure_at curve k ≡ None → IsOffered curve k ks ks
offered_none curve k ks none = record {
  there = λ has. absurd (none-some has.0 (sym none ∙ has.1));
  kept = λ j in'. in';
  only = λ j in'. inl in';
  rise = λ rising below. rising;
}

offered_some : (curve : List (Option ℤ)) (k : ℕ) (ks : List ℕ) (v : ℤ) → figure_at curve k ≡ Some v → IsOffered curve k ks (ks ++ k ∷ [])
offered_some curve k ks v here = record {
  there = λ has. Contains-push ks k;
  kept = λ j in'. Contains-append_left ks (k ∷ []) j in';
  only = λ j in'. turned j (Contains-push_cases ks k j in');
  rise = λ rising below. all_pairs_push (λ i j. i < j) ks k rising (λ i d inside. below (get_or ks i d) (Contains-get_or ks i d inside));
} where
  turned : (j : ℕ) → Contains ks j ⊎ (k ≡ j) → Contains ks j ⊎ (HasFigure curve j × (j ≡ k))
  turned j (inl old) = inl old
  turned j (inr same) = inr ((v, subst (λ (i : ℕ). figure_at curve i ≡ Some v) same here), sym same)

pub offered_without : (curve : List (Option ℤ)) (k : ℕ) (ks : List ℕ) (o : Option ℤ) → o ≡ figure_at curve k → is_none o ≡ true → IsOffered curve k ks ks
offered_without curve k ks None is none = offered_none curve k ks (sym is)
offered_without curve k ks (Some v) is none = absurd (cc)

pub offered_with : (curve : List (Option ℤ)) (k : ℕ) (ks : List ℕ) (o : Option ℤ) → o ≡ figure_at curve k → is_none o ≡ false → IsOffered curve k ks (ks ++ k ∷ [])
offered_with curve k ks None is some = absurd (cc)
offered_with curve k ks (Some v) is some = offered_some curve k ks v (sym is)

-- what is drawn of the first conditions
pub record AreDrawnTo (curve : List (Option ℤ)) (k : ℕ) (ks : List ℕ) : Type 0 where
  pub rising : AllPairs (λ i j. i < j) ks
  pub below : (j : ℕ) → Contains ks j → j < k
  pub figures : (j : ℕ) → Contains ks j → HasFigure curve j
  pub all : (j : ℕ) → j < k → HasFigure curve j → Contains ks j

pub drawn_to_none : (curve : List (Option ℤ)) → AreDrawnTo curve 0 []
drawn_to_none curve = record {
  rising = no_pairs;
  below = λ j in'. none_in j in';
  figures = λ j in'. none_in j in';
  all = λ j low has. absurd (omega (arith, low));
}

pub drawn_to_more : (curve : List (Option ℤ)) (k : ℕ) (ks ls : List ℕ) → AreDrawnTo curve k ks → IsOffered curve k ks ls → AreDrawnTo curve (k + 1) ls
drawn_to_more curve k ks ls d o = record {
  rising = o.rise d.rising d.below;
  below = λ j in'. low j (o.only j in');
  figures = λ j in'. has j (o.only j in');
  all = below_more (λ j. HasFigure curve j → Contains ls j) k (λ j low has. o.kept j (d.all j low has)) o.there;
} where
  low : (j : ℕ) → Contains ks j ⊎ (HasFigure curve j × (j ≡ k)) → j < k + 1
  low j (inl old) = omega (arith, d.below j old)
  low j (inr new) = omega (arith, new.1)

  has : (j : ℕ) → Contains ks j ⊎ (HasFigure curve j × (j ≡ k)) → HasFigure curve j
  has j (inl old) = d.figures j old
  has j (inr new) = new.0

inside : (curve : List (Option ℤ)) (k : ℕ) (v : ℤ) → figure_at curve k ≡ Some v → k < length curve
inside [] k v has = absurd (none-some v has)
inside (o ∷ more) zero v has = omega arith
inside (o ∷ more) (suc k) v has = omega (arith, inside more k v has)

pub drawn_all : (curve : List (Option ℤ)) (k : ℕ) (ks : List ℕ) → length curve ≤ 1200 → length curve ≤ k → AreDrawnTo curve k ks → IsDrawn curve ks
drawn_all curve k ks few whole d = record {
  rising = d.rising;
  figures = d.figures;
  all = λ short j has. d.all j (omega (arith, whole, inside curve j has.0 has.1)) has;
  stretches = λ long. absurd (omega (arith, few, long));
}

-- a stretch
figure_of_one : (curve : List (Option ℤ)) (s e : ℕ) (x : Ends) → AreEnds curve s e x → (j : ℕ) → IsOneOf x j → HasFigure curve j × (s ≤ j) × (j < e)
figure_of_one curve s e x is j one = by one
  where
    at : (k : ℕ) → k ≡ j → HasFigure curve k → s ≤ k → k < e → HasFigure curve j × (s ≤ j) × (j < e)
    at k same has from below = subst (λ (i : ℕ). HasFigure curve i × (s ≤ i) × (i < e)) same (has, from, below)

    by : IsOneOf x j → HasFigure curve j × (s ≤ j) × (j < e)
    by (inl same) = at x.first (sym same) is.first.here is.first.from is.first.below
    by (inr (inl same)) = at x.least.at (sym same) (x.least.figure, is.least.here) is.least.from is.least.below
    by (inr (inr (inl same))) = at x.greatest.at (sym same) (x.greatest.figure, is.greatest.here) is.greatest.from is.greatest.below
    by (inr (inr (inr same))) = at x.last (sym same) is.last.here is.last.from is.last.below

pub stretch_added : (curve : List (Option ℤ)) (s e : ℕ) (x : Ends) (old new : List ℕ) → AreEnds curve s e x → AreAdded x old new → IsDrawnIn curve s e old new
stretch_added curve s e x old new is added =
    let least = least_within curve s e x is in
    let greatest = greatest_within curve s e x is in
    record {
      drawn = inr (x, is, added.ends);
      kept = added.kept;
      only = λ j in'. told j (added.only j in');
      rise = λ rising below.
          (added.rise least.0 greatest.0 least.1 greatest.1
          (record { rising = rising; most = λ j in'. omega (arith, below j in', is.first.from) })).rising;
    }
  where
    told : (j : ℕ) → Contains old j ⊎ IsOneOf x j → Contains old j ⊎ (HasFigure curve j × (s ≤ j) × (j < e))
    told j (inl in') = inl in'
    told j (inr one) = inr (figure_of_one curve s e x is j one)

pub stretch_without : (curve : List (Option ℤ)) (s e : ℕ) (ks : List ℕ) → HasNone curve s e → IsDrawnIn curve s e ks ks
stretch_without curve s e ks none = record {
  drawn = inl none;
  kept = λ j in'. in';
  only = λ j in'. inl in';
  rise = λ rising below. rising;
}

stretch_kept : (curve : List (Option ℤ)) (s e : ℕ) (ks ls : List ℕ) → ((j : ℕ) → Contains ks j → Contains ls j) → IsStretchDrawn curve s e ks → IsStretchDrawn curve s e ls
stretch_kept curve s e ks ls kept (inl none) = inl none
stretch_kept curve s e ks ls kept (inr x) =
    inr (x.0, x.1, record { first = kept x.0.first x.2.first; last = kept x.0.last x.2.last; least = kept x.0.least.at x.2.least; greatest = kept x.0.greatest.at x.2.greatest })

-- what is drawn of the first stretches
pub record AreDrawnUpTo (curve : List (Option ℤ)) (b start : ℕ) (ks : List ℕ) : Type 0 where
  pub at : start ≡ start_of b (length curve)
  pub rising : AllPairs (λ i j. i < j) ks
  pub below : (j : ℕ) → Contains ks j → j < start
  pub figures : (j : ℕ) → Contains ks j → HasFigure curve j
  pub each : (i : ℕ) → i < b → IsStretchDrawn curve (start_of i (length curve)) (start_of (i + 1) (length curve)) ks

pub up_to_none : (curve : List (Option ℤ)) → AreDrawnUpTo curve 0 0 []
up_to_none curve = record {
  at = omega arith;
  rising = no_pairs;
  below = λ j in'. none_in j in';
  figures = λ j in'. none_in j in';
  each = λ i low. absurd (omega (arith, low));
}

pub up_to_more : (curve : List (Option ℤ)) (b start end : ℕ) (ks ls : List ℕ) → AreDrawnUpTo curve b start ks → end ≡ start_of (b + 1) (length curve)
    → IsDrawnIn curve start end ks ls → AreDrawnUpTo curve (b + 1) end ls
up_to_more curve b start end ks ls d next in' =
    let n = length curve in
    let rises : start ≤ end = omega (arith, starts_rise b n, d.at, next) in
    record {
      at = next;
      rising = in'.rise d.rising d.below;
      below = λ j in_new. low rises j (in'.only j in_new);
      figures = λ j in_new. has j (in'.only j in_new);
      each = below_more (λ i. IsStretchDrawn curve (start_of i n) (start_of (i + 1) n) ls) b
          (λ i low. stretch_kept curve (start_of i n) (start_of (i + 1) n) ks ls in'.kept (d.each i low))
          (subst (λ (e : ℕ). IsStretchDrawn curve (start_of b n) e ls) next (subst (λ (s : ℕ). IsStretchDrawn curve s end ls) d.at in'.drawn));
    }
  where
    low : start ≤ end → (j : ℕ) → Contains ks j ⊎ (HasFigure curve j × (start ≤ j) × (j < end)) → j < end
    low rises j (inl old) = omega (arith, d.below j old, rises)
    low rises j (inr new) = new.2

    has : (j : ℕ) → Contains ks j ⊎ (HasFigure curve j × (start ≤ j) × (j < end)) → HasFigure curve j
    has j (inl old) = d.figures j old
    has j (inr new) = new.0

pub drawn_long : (curve : List (Option ℤ)) (b start : ℕ) (ks : List ℕ) → 1200 < length curve → 300 ≤ b → AreDrawnUpTo curve b start ks → IsDrawn curve ks
drawn_long curve b start ks many whole d = record {
  rising = d.rising;
  figures = d.figures;
  all = λ few. absurd (omega (arith, many, few));
  stretches = λ long i low. d.each i (omega (arith, whole, low));
}
