-- The sums of the fours of two steps that were exchanged.
use Rattle.std.proofs.Common.{◌≡◌, ℕ, zero, suc, ◌/◌, ◌<◌, List, [], ◌∷◌, length, map, set, get_or, refl, sym, ap, ◌∙◌, subst, arith, get_or-set_same, get_or-set_other}
use Rattle.std.specs.List.{swap}
use Rattle.std.proofs.lemmas.List.{ext_get_or, length-map, length-set}
use Rattle.std.proofs.lemmas.List.Edits.{length-swap, swap_is}
use mathlib.Core.Logic.{dite}
use native.Mathlib.Decide.{ℕ_discrete}
use Rattle.moment_sums.specs.Kept.{Kept, none_kept}
use Rattle.running_sums.specs.Fours.{WereExchanged, fours}
use Rattle.running_sums.proofs.FourLemmas.{fours_same, length-fours}

pub were_long : (one other : ℕ) (ys sums : List Kept) → WereExchanged one other ys sums → length sums ≡ length ys / 4
were_long one other ys sums were =
    ap length were.are ∙ length-fours were.olds ∙ ap (λ n. n / 4) (sym (ap length were.exchanged ∙ length-swap were.olds one other))

-- the sums of the fours of two places are set, where their changes were exchanged
pub both_set : (one other : ℕ) (ys sums once twice : List Kept) → WereExchanged one other ys sums → one < length ys → other < length ys
    → once ≡ set sums (one / 4) (get_or (fours ys) (one / 4) none_kept) → twice ≡ set once (other / 4) (get_or (fours ys) (other / 4) none_kept) → twice ≡ fours ys
both_set one other ys sums once twice were low high first second = is ∙ all where
  olds : List Kept
  olds = were.olds

  long : length olds ≡ length ys
  long = sym (ap length were.exchanged ∙ length-swap olds one other)

  i : ℕ
  i = one / 4

  j : ℕ
  j = other / 4

  v : Kept
  v = get_or (fours ys) i none_kept

  w : Kept
  w = get_or (fours ys) j none_kept

  is : twice ≡ set (set (fours olds) i v) j w
  is = second ∙ ap (λ l. set l j w) (first ∙ ap (λ l. set l i v) were.are)

  -- other changes are as they were
  kept : (k : ℕ) → (k ≡ one → ⊥) → (k ≡ other → ⊥) → get_or olds k none_kept ≡ get_or ys k none_kept
  kept k not_one not_other =
      let x : Kept = get_or olds other none_kept in
      let y : Kept = get_or olds one none_kept in
      let swapped : ys ≡ set (set olds one x) other y = were.exchanged ∙ sym (swap_is olds one other none_kept (omega (arith, long, low)) (omega (arith, long, high))) in
      sym (ap (λ l. get_or l k none_kept) swapped ∙ get_or-set_other (set olds one x) other k y none_kept not_other ∙ get_or-set_other olds one k x none_kept not_one)

  once_long : length (set (fours olds) i v) ≡ length (fours ys)
  once_long = length-set (fours olds) i v ∙ length-fours olds ∙ ap (λ n. n / 4) long ∙ sym (length-fours ys)

  all : set (set (fours olds) i v) j w ≡ fours ys
  all =
      ext_get_or none_kept (set (set (fours olds) i v) j w) (fours ys) (length-set (set (fours olds) i v) j w ∙ once_long)
      (λ t h. let inside : t < length (set (fours olds) i v) = subst (λ n. t < n) (length-set (set (fours olds) i v) j w) h in
      dite (ℕ_discrete t j)
      (λ here. ap (λ n. get_or (set (set (fours olds) i v) j w) n none_kept) here
      ∙ get_or-set_same (set (fours olds) i v) j w none_kept (subst (λ n. n < length (set (fours olds) i v)) here inside) ∙ ap (λ n. get_or (fours ys) n none_kept) (sym here))
      (λ not_j. get_or-set_other (set (fours olds) i v) j t w none_kept not_j
      ∙ dite (ℕ_discrete t i)
      (λ here. ap (λ n. get_or (set (fours olds) i v) n none_kept) here
      ∙ get_or-set_same (fours olds) i v none_kept (subst (λ n. n < length (fours olds)) here (subst (λ n. t < n) (length-set (fours olds) i v) inside)) ∙ ap (λ n. get_or (fours ys) n none_kept) (sym here))
      (λ not_i. get_or-set_other (fours olds) i t v none_kept not_i
      ∙ fours_same olds ys t long (λ k at. kept k (λ e. not_i (sym at ∙ ap (λ n. n / 4) e)) (λ e. not_j (sym at ∙ ap (λ n. n / 4) e))))))

module _ {X Y : Type 0} (f : X → Y) where
  map_set : (xs : List X) (i : ℕ) (x : X) → map f (set xs i x) ≡ set (map f xs) i (f x)
  map_set [] i x = refl
  map_set (y ∷ ys) zero x = refl
  map_set (y ∷ ys) (suc i) x = ap (λ l. f y ∷ l) (map_set ys i x)

  map_get : (xs : List X) (i : ℕ) (d : X) → f (get_or xs i d) ≡ get_or (map f xs) i (f d)
  map_get [] i d = refl
  map_get (y ∷ ys) zero d = refl
  map_get (y ∷ ys) (suc i) d = map_get ys i d

  pub map_swap : (xs : List X) (i j : ℕ) → i < length xs → j < length xs → map f (swap xs i j) ≡ swap (map f xs) i j
  map_swap [] i j low high = absurd (omega (arith, low))
  map_swap (z ∷ zs) i j low high =
      let xs : List X = z ∷ zs in
      let long = length-map xs f in
      ap (map f) (sym (swap_is xs i j z low high)) ∙ map_set (set xs i (get_or xs j z)) j (get_or xs i z)
      ∙ ap (λ l. set l j (f (get_or xs i z))) (map_set xs i (get_or xs j z))
      ∙ (λ k. set (set (map f xs) i (map_get xs j z k)) j (map_get xs i z k))
      ∙ swap_is (map f xs) i j (f z) (omega (arith, long, low)) (omega (arith, long, high))
