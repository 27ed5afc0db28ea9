-- The first cause and the first criterion of a list are those of the least number.
use Rattle.std.proofs.Common.{◌≡◌, ℕ, zero, suc, ◌<◌, Bool, true, false, not, List, [], ◌∷◌, slice_get, None, Some, refl, ap, subst, arith}
use Rattle.std.specs.Prelude.{find, cond}

module _ {X : Type 0} (holds : X → Bool) where
  -- what was found stands at a place, isn't met, and all at the places before it are
  pub record IsFoundAt (xs : List X) (x : X) (m : ℕ) : Type 0 where
    pub place : slice_get xs m ≡ Some x
    pub unmet : holds x ≡ false
    pub before : (n : ℕ) (y : X) → n < m → slice_get xs n ≡ Some y → holds y ≡ true

  pub found : (xs : List X) (x : X) → find (λ y. not (holds y)) xs ≡ Some x → (m : ℕ) × IsFoundAt xs x m
  found [] x e = absurd cc
  found (y ∷ ys) x e = by (found ys x) (holds y) refl e where
    later : holds y ≡ true → (m : ℕ) → IsFoundAt ys x m → (n : ℕ) (z : X) → n < suc m → slice_get (y ∷ ys) n ≡ Some z → holds z ≡ true
    later is m more zero z low at = let same : y ≡ z = cc in subst (λ z. holds z ≡ true) same is
    later is m more (suc n) z low at = more.before n z (omega (arith, low)) at

    by : (find (λ z. not (holds z)) ys ≡ Some x → (m : ℕ) × IsFoundAt ys x m)
        → (b : Bool) → holds y ≡ b → cond (not b) (Some y) (find (λ z. not (holds z)) ys) ≡ Some x → (m : ℕ) × IsFoundAt (y ∷ ys) x m
    by behind false is e =
        let same : y ≡ x = cc in
        (0, record { place = ap (λ z. Some z) same; unmet = subst (λ z. holds z ≡ false) same is; before = λ n z low at. absurd (omega (arith, low)) })
    by behind true is e =
        let more = behind e in
        (suc more.0, record { place = more.1.place; unmet = more.1.unmet; before = later is more.0 more.1 })

  pub not_found : (xs : List X) → find (λ y. not (holds y)) xs ≡ None → (n : ℕ) (y : X) → slice_get xs n ≡ Some y → holds y ≡ true
  not_found [] e n y at = absurd cc
  not_found (x ∷ xs) e n y at = by (not_found xs) (holds x) refl e n at where
    by : (find (λ z. not (holds z)) xs ≡ None → (n : ℕ) (y : X) → slice_get xs n ≡ Some y → holds y ≡ true)
        → (b : Bool) → holds x ≡ b → cond (not b) (Some x) (find (λ z. not (holds z)) xs) ≡ None → (n : ℕ) → slice_get (x ∷ xs) n ≡ Some y → holds y ≡ true
    by behind false is e n at = absurd cc
    by behind true is e zero at = let same : x ≡ y = cc in subst (λ z. holds z ≡ true) same is
    by behind true is e (suc n) at = behind e n y at
