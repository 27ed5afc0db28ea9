-- Adding up what stands at each key of a table.
use Rattle.std.proofs.Common.{◌≡◌, List, [], ◌∷◌, ◌++◌, map, flat_map, length, Option, None, Some, Bool, true, false, cond, ℤ, pos, ◌+ℤ◌, refl, sym, ap, ◌∙◌, subst, arith}
use Rattle.std.specs.Prelude.{find}
use Rattle.std.specs.List.{IsDistinct, AllByRecursion}
use Rattle.std.specs.Map.{update}
use Rattle.std.proofs.lemmas.Int.{ints}
use Rattle.units_core.specs.Totals.{total}

pub total-append : {X : Type 0} (f : X → ℤ) (xs ys : List X) → total f (xs ++ ys) ≡ total f xs +ℤ total f ys
total-append f [] ys = omega (arith, ints)
total-append f (x ∷ xs) ys = omega (arith, ints, total-append f xs ys)

-- a list's length is its sum of ones
pub ones : {X : Type 0} (xs : List X) → total (λ x. pos 1) xs ≡ pos (length xs)
ones [] = refl
ones (x ∷ xs) = omega (arith, ints, ones xs)

-- Elements of a table, each with its key; what each gives, by what stands at its key; nothing where nothing stands there.
module _ {E K V B : Type 0} (key : E → K) (eq : K → K → Bool) (same : (a b : K) → eq a b ≡ true → a ≡ b) (h : E → Option V → List B) (none : (x : E) → h x None ≡ []) where
  abbrev pub rows : (K → Option V) → List E → List B
  rows at es = flat_map (λ (x : E). h x (at (key x))) es

  -- the element of a key
  abbrev pub element : List E → K → Option E
  element es k = find (λ (x : E). eq k (key x)) es

  abbrev pub given : Option E → V → List B
  given None v = []
  given (Some x) v = h x (Some v)

  pub empty_rows : (es : List E) → rows (λ k. None) es ≡ []
  empty_rows [] = refl
  empty_rows (x ∷ es) = λ i. none x i ++ empty_rows es i

  unchanged : (at : K → Option V) (k : K) (w : Option V) (es : List E) → AllByRecursion (λ y. eq k y ≡ false) (map key es) → rows (update eq at k w) es ≡ rows at es
  unchanged at k w [] apart = refl
  unchanged at k w (x ∷ es) apart =
      let here : h x (cond (eq k (key x)) w (at (key x))) ≡ h x (at (key x)) = ap (λ b. h x (cond b w (at (key x)))) apart.0 in
      λ i. here i ++ unchanged at k w es apart.1 i

  -- what the element of a key gives
  abbrev pub gives : Option E → Option V → List B
  gives None w = []
  gives (Some x) w = h x w

  -- one key's value changes, and the total by what stood there and what stands there now
  pub changed : (f : B → ℤ) (at : K → Option V) (k : K) (w : Option V) (es : List E) → IsDistinct eq (map key es)
      → total f (rows (update eq at k w) es) +ℤ total f (gives (element es k) (at k)) ≡ total f (rows at es) +ℤ total f (gives (element es k) w)
  unfolding IsDistinct
  changed f at k w [] apart = refl
  changed f at k w (x ∷ es) apart =
      elim (eq k (key x)) as (λ b. eq k (key x) ≡ b → total f (h x (cond b w (at (key x))) ++ rows (update eq at k w) es) +ℤ total f (gives (cond b (Some x) (element es k)) (at k))
      ≡ total f (rows at (x ∷ es)) +ℤ total f (gives (cond b (Some x) (element es k)) w)) [
        | true ↦ λ is.
            let here : k ≡ key x = same k (key x) is in
            let rest : rows (update eq at k w) es ≡ rows at es = unchanged at k w es (subst (λ y. AllByRecursion (λ z. eq y z ≡ false) (map key es)) (sym here) apart.0) in
            let was : h x (at (key x)) ≡ h x (at k) = ap (λ y. h x (at y)) (sym here) in
            let a = total-append f (h x w) (rows (update eq at k w) es) in
            let b = total-append f (h x (at (key x))) (rows at es) in
            omega (arith, ints, a, b, ap (total f) was, ap (total f) rest)
        | false ↦ λ is.
            let a = total-append f (h x (at (key x))) (rows (update eq at k w) es) in
            let b = total-append f (h x (at (key x))) (rows at es) in
            omega (arith, ints, a, b, changed f at k w es apart.1)
      ] refl

  nothing_given : (o : Option E) (w : Option V) → w ≡ None → gives o w ≡ []
  nothing_given None w e = refl
  nothing_given (Some x) w e = ap (h x) e ∙ none x

  given_is : (o : Option E) (v : V) → gives o (Some v) ≡ given o v
  given_is None v = refl
  given_is (Some x) v = refl

  -- a key that had no value gets one
  pub one_more : (f : B → ℤ) (at : K → Option V) (k : K) (v : V) (es : List E) → at k ≡ None → IsDistinct eq (map key es)
      → total f (rows (update eq at k (Some v)) es) ≡ total f (rows at es) +ℤ total f (given (element es k) v)
  one_more f at k v es free apart =
      let both = changed f at k (Some v) es apart in
      omega (arith, ints, both, ap (total f) (nothing_given (element es k) (at k) free), ap (total f) (given_is (element es k) v))
