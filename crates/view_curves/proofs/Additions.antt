-- Numbers that are added behind others, in their order.
use Rattle.std.proofs.Common.{◌≡◌, ◌∙◌, ◌⊎◌, inl, inr, ⊎_elim, true, false, ℕ, ◌+◌, ◌-◌, ◌<◌, ◌≤◌, List, [], ◌∷◌, ◌++◌, length, get_or, slice_get, Some, refl, sym, ap, subst, arith}
use Rattle.std.specs.List.{AllPairs, Contains}
use Rattle.std.proofs.lemmas.Bool.{cases_lt}
use Rattle.std.proofs.lemmas.List.Elements.{Contains-append_left, Contains-get_or, Contains-push, Contains-push_cases}
use Rattle.std.proofs.lemmas.List.Quantifiers.{all_pairs_push}
use Rattle.std.proofs.lemmas.Option.{get_or_from_slice_get, slice_get-get_or, slice_get_within}
use Rattle.view_curves.specs.Decimation.{AreAdded, EndsWith, HaveEnds, IsAdded, IsOneOf, RiseTo}
use Rattle.view_curves.specs.declared.decimation.Ends.{Ends}

pub is_not : false ≡ true → ⊥
is_not wrong = absurd (cc)

-- a number that is the last already
pub added_before : (k : ℕ) (ks : List ℕ) → EndsWith k ks → IsAdded k ks ks
added_before k ks ends =
    let inside = slice_get_within ks (length ks - 1) k ends in
    let is : get_or ks (length ks - 1) k ≡ k = get_or_from_slice_get ks (length ks - 1) k k ends in
    record {
      holds = subst (Contains ks) is (Contains-get_or ks (length ks - 1) k inside);
      kept = λ j in'. in';
      only = λ j in'. inl in';
      rise = λ r. r;
    }

-- all numbers that rise up to one that isn't the last of them are below it
module _ (k : ℕ) (ks : List ℕ) (other : EndsWith k ks → ⊥) (r : RiseTo k ks) where
  rising_below : (i d : ℕ) → i < length ks → get_or ks i d < k
  rising_below i d inside =
      let most = r.most (get_or ks i d) (Contains-get_or ks i d inside) in
      let last = length ks - 1 in
      let end : last < length ks = omega (arith, inside) in
      let low = r.most (get_or ks last d) (Contains-get_or ks last d end) in
      behind most low (cases_lt i last)
    where
      below : get_or ks i d ≤ k → (get_or ks i d < k) ⊎ (k ≤ get_or ks i d) → i ≡ length ks - 1 → get_or ks i d < k
      below most (inl less) at_end = less
      below most (inr more) at_end =
          let same : get_or ks i d ≡ k = omega (arith, most, more) in
          absurd (other (subst (λ (n : ℕ). slice_get ks n ≡ Some k) at_end (slice_get-get_or ks i d inside ∙ ap Some same)))

      behind : get_or ks i d ≤ k → get_or ks (length ks - 1) d ≤ k → (i < length ks - 1) ⊎ (length ks - 1 ≤ i) → get_or ks i d < k
      behind most low (inl before) =
          let less = r.rising i (length ks - 1) d before (omega (arith, inside)) in
          omega (arith, less, low)
      behind most low (inr here) =
          let at_end : i ≡ length ks - 1 = omega (arith, here, inside) in
          below most (cases_lt (get_or ks i d) k) at_end

  rise_push : RiseTo k (ks ++ k ∷ [])
  rise_push = record {
    rising = all_pairs_push (λ i j. i < j) ks k r.rising rising_below;
    most = λ j in'. ⊎_elim (λ old. r.most j old) (λ same. omega (arith, same)) (Contains-push_cases ks k j in');
  }

turn : (A : Type 0) (k j : ℕ) → A ⊎ (k ≡ j) → A ⊎ (j ≡ k)
turn A k j (inl old) = inl old
turn A k j (inr same) = inr (sym same)

pub added_behind : (k : ℕ) (ks : List ℕ) → (EndsWith k ks → ⊥) → IsAdded k ks (ks ++ k ∷ [])
added_behind k ks other = record {
  holds = Contains-push ks k;
  kept = λ j in'. Contains-append_left ks (k ∷ []) j in';
  only = λ j in'. turn (Contains ks j) k j (Contains-push_cases ks k j in');
  rise = λ r. rise_push k ks other r;
}

-- a number up to which some rise may be a greater one
rise_higher : (k m : ℕ) (ks : List ℕ) → k ≤ m → RiseTo k ks → RiseTo m ks
rise_higher k m ks more r = record { rising = r.rising; most = λ j in'. omega (arith, more, r.most j in') }

-- four numbers, one behind another: the second and third are the least and the greatest, in either order
module _ (x : Ends) (before behind : ℕ) (a b c d e : List ℕ) (one : IsAdded x.first a b) (two : IsAdded before b c) (three : IsAdded behind c d) (four : IsAdded x.last d e) where
  kept_all : (j : ℕ) → Contains a j → Contains e j
  kept_all j in' = four.kept j (three.kept j (two.kept j (one.kept j in')))

  second : Contains e before
  second = four.kept before (three.kept before two.holds)

  third : Contains e behind
  third = four.kept behind three.holds

  ends_in : ((before ≡ x.least.at) × (behind ≡ x.greatest.at)) ⊎ ((before ≡ x.greatest.at) × (behind ≡ x.least.at)) → HaveEnds x e
  ends_in (inl same) = record {
    first = four.kept x.first (three.kept x.first (two.kept x.first one.holds));
    last = four.holds;
    least = subst (Contains e) same.0 second;
    greatest = subst (Contains e) same.1 third;
  }
  ends_in (inr same) = record {
    first = four.kept x.first (three.kept x.first (two.kept x.first one.holds));
    last = four.holds;
    least = subst (Contains e) same.1 third;
    greatest = subst (Contains e) same.0 second;
  }

  abbrev Other : ℕ → Type 0
  Other j = (j ≡ x.first) ⊎ ((j ≡ before) ⊎ ((j ≡ behind) ⊎ (j ≡ x.last)))

  only_from : (j : ℕ) → Contains e j → Contains a j ⊎ Other j
  only_from j in' = ⊎_elim (λ at_d. ⊎_elim (λ at_c. ⊎_elim (λ at_b. first (one.only j at_b)) (λ same. inr (inr (inl same))) (two.only j at_c)) (λ same. inr (inr (inr (inl same)))) (three.only j at_d))
      (λ same. inr (inr (inr (inr same)))) (four.only j in')
    where
      first : Contains a j ⊎ (j ≡ x.first) → Contains a j ⊎ Other j
      first (inl old) = inl old
      first (inr same) = inr (inl same)

  named : ((before ≡ x.least.at) × (behind ≡ x.greatest.at)) ⊎ ((before ≡ x.greatest.at) × (behind ≡ x.least.at)) → (j : ℕ) → Contains a j ⊎ Other j → Contains a j ⊎ IsOneOf x j
  named which j (inl old) = inl old
  named which j (inr (inl same)) = inr (inl same)
  named (inl which) j (inr (inr (inl same))) = inr (inr (inl (same ∙ which.0)))
  named (inr which) j (inr (inr (inl same))) = inr (inr (inr (inl (same ∙ which.0))))
  named (inl which) j (inr (inr (inr (inl same)))) = inr (inr (inr (inl (same ∙ which.1))))
  named (inr which) j (inr (inr (inr (inl same)))) = inr (inr (inl (same ∙ which.1)))
  named which j (inr (inr (inr (inr same)))) = inr (inr (inr (inr same)))

  rises : x.first ≤ before → before ≤ behind → behind ≤ x.last → RiseTo x.first a → RiseTo x.last e
  rises first_low low high r =
      four.rise (rise_higher behind x.last d high (three.rise (rise_higher before behind c low (two.rise (rise_higher x.first before b first_low (one.rise r))))))

  pub ends_added : ((before ≡ x.least.at) × (behind ≡ x.greatest.at)) ⊎ ((before ≡ x.greatest.at) × (behind ≡ x.least.at)) → before ≤ behind → AreAdded x a e
  ends_added which low = record {
    ends = ends_in which;
    kept = kept_all;
    only = λ j in'. named which j (only_from j in');
    rise = λ to_least to_greatest least_to greatest_to r. rises (start which to_least to_greatest) low (end which least_to greatest_to) r;
  } where
    start : ((before ≡ x.least.at) × (behind ≡ x.greatest.at)) ⊎ ((before ≡ x.greatest.at) × (behind ≡ x.least.at)) → x.first ≤ x.least.at → x.first ≤ x.greatest.at → x.first ≤ before
    start (inl same) one other = omega (arith, same.0, one)
    start (inr same) one other = omega (arith, same.0, other)

    end : ((before ≡ x.least.at) × (behind ≡ x.greatest.at)) ⊎ ((before ≡ x.greatest.at) × (behind ≡ x.least.at)) → x.least.at ≤ x.last → x.greatest.at ≤ x.last → behind ≤ x.last
    end (inl same) one other = omega (arith, same.1, other)
    end (inr same) one other = omega (arith, same.1, one)
