-- The sums of the fours of some places are set.
use Rattle.std.proofs.Common.{◌≡◌, ◌⊎◌, ◌∙◌, ℕ, suc, ◌+◌, ◌-◌, ◌/◌, ◌<◌, ◌≤◌, List, [], ◌∷◌, length, drop, get_or, min, inl, inr, sym, ap, arith, lt_of_not-le}
use Rattle.std.proofs.lemmas.List.{ext_get_or, get_or-drop, get_or_past}
use Rattle.std.specs.Prelude.{⊤, ◌≢◌}
use mathlib.Core.Logic.{dite}
use native.Mathlib.Decide.{dec_le, ℕ_discrete}
use Rattle.prefix_scan.specs.Rows.{IsWritten}
use Rattle.moment_sums.specs.Kept.{Kept, none_kept}
use Rattle.running_sums.specs.Fours.{AreElsewhere, LackPlaces, fours}
use Rattle.running_sums.proofs.FourLemmas.{fours_same, length-fours}

-- a place is none of these
abbrev pub IsOther : ℕ → List ℕ → Type 0
IsOther k [] = ⊤
IsOther k (place ∷ places) = (k ≢ place) × IsOther k places

-- a step of a four in which none of the places is
pub others : (places : List ℕ) (four k : ℕ) → k / 4 ≡ four → AreElsewhere four places → IsOther k places
others [] four k at away = tt
others (place ∷ places) four k at away = (λ e. away.0 (ap (λ n. n / 4) (sym e) ∙ at), others places four k at away.1)

-- the sums of fours of changes before those at some places became others
pub lack_places : (places : List ℕ) (olds ys sums : List Kept) → length olds ≡ length ys → sums ≡ fours olds
    → ((k : ℕ) → IsOther k places → get_or olds k none_kept ≡ get_or ys k none_kept) → LackPlaces places (fours ys) sums
lack_places places olds ys sums long are same = record {
  long = ap length are ∙ length-fours olds ∙ ap (λ n. n / 4) long ∙ sym (length-fours ys);
  same = λ four away. ap (λ l. get_or l four none_kept) are
      ∙ fours_same olds ys four long (λ k at. same k (others places four k at away));
}

-- a four, or none where it isn't whole
pub last_of : (four whole end : ℕ) → end ≡ min (four + 1) whole → (end ≡ four + 1) ⊎ ((end ≡ whole) × (whole ≤ four))
last_of four whole end is =
    dite (dec_le (four + 1) whole) (λ le. inl (omega (arith, is, le)))
    (λ not. let less = lt_of_not-le not in inr (omega (arith, is, less), omega (arith, less)))

-- one of them is set
pub place_set : (places : List ℕ) (all old new : List Kept) (place end : ℕ) → (end ≡ place / 4 + 1) ⊎ ((end ≡ length old) × (length old ≤ place / 4))
    → IsWritten none_kept (place / 4) (end - place / 4) (drop (place / 4) all) old new → LackPlaces (place ∷ places) all old → LackPlaces places all new
place_set places all old new place end ends is lack = record {
  long = is.long ∙ lack.long;
  same = λ k away. dite (ℕ_discrete k (place / 4)) (λ here. ap (λ n. get_or new n none_kept) here ∙ there ends ∙ ap (λ n. get_or all n none_kept) (sym here))
      (λ not. beside k not ∙ lack.same k ((λ e. not (sym e)), away));
} where
  four : ℕ
  four = place / 4

  there : (end ≡ four + 1) ⊎ ((end ≡ length old) × (length old ≤ four)) → get_or new four none_kept ≡ get_or all four none_kept
  there (inl e) = let same : four ≡ four + 0 = omega arith in
      ap (λ n. get_or new n none_kept) same ∙ is.inside 0 (omega (arith, e)) ∙ get_or-drop four all 0 none_kept ∙ ap (λ n. get_or all n none_kept) (sym same)
  there (inr e) = get_or_past new four none_kept (omega (arith, e.1, is.long)) ∙ sym (get_or_past all four none_kept (omega (arith, e.1, lack.long)))

  beside : (k : ℕ) → (k ≡ four → ⊥) → get_or new k none_kept ≡ get_or old k none_kept
  beside k not = dite (dec_le (suc k) four) (λ low. is.before k low) (λ high. is.behind k (past k not (lt_of_not-le high) ends)) where
    past : (k : ℕ) → (k ≡ four → ⊥) → four < suc k → (end ≡ four + 1) ⊎ ((end ≡ length old) × (length old ≤ four)) → four + (end - four) ≤ k
    past k not high (inl e) = omega (arith, e, high, not)
    past k not high (inr e) = omega (arith, e.0, e.1, high)

-- all of them are set
pub places_set : (ys sums : List Kept) → LackPlaces [] (fours ys) sums → sums ≡ fours ys
places_set ys sums lack = ext_get_or none_kept sums (fours ys) lack.long (λ k h. lack.same k tt)
