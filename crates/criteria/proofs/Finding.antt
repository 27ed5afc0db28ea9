-- Finding the first of a list, one after another.
use Rattle.std.proofs.Common.{◌≡◌, ℕ, zero, suc, ◌+◌, ◌≤◌, Bool, true, false, List, [], ◌∷◌, length, drop, slice_get, None, Some, refl, ap, ◌∙◌, arith}
use Rattle.std.specs.Prelude.{find, cond}

-- the k-th isn't it
find_next : {X : Type 0} (p : X → Bool) (xs : List X) (k : ℕ) (x : X) → slice_get xs k ≡ Some x → p x ≡ false → find p (drop k xs) ≡ find p (drop (suc k) xs)
find_next p [] k x e h = absurd cc
find_next p (y ∷ ys) zero x e h =
    let same : y ≡ x = cc in
    ap (λ (b : Bool). cond b (Some y) (find p ys)) (ap p same ∙ h)
find_next p (y ∷ ys) (suc k) x e h = find_next p ys k x e h

pub find_more : {X : Type 0} (p : X → Bool) (xs : List X) (k : ℕ) (x : X) → slice_get xs k ≡ Some x → p x ≡ false → find p (drop k xs) ≡ find p (drop (k + 1) xs)
find_more p xs k x e h = let next : suc k ≡ k + 1 = omega arith in find_next p xs k x e h ∙ ap (λ m. find p (drop m xs)) next

-- the k-th is it
pub find_here : {X : Type 0} (p : X → Bool) (xs : List X) (k : ℕ) (x : X) → slice_get xs k ≡ Some x → p x ≡ true → find p (drop k xs) ≡ Some x
find_here p [] k x e h = absurd cc
find_here p (y ∷ ys) zero x e h =
    let same : y ≡ x = cc in
    ap (λ (b : Bool). cond b (Some y) (find p ys)) (ap p same ∙ h) ∙ ap (λ z. Some z) same
find_here p (y ∷ ys) (suc k) x e h = find_here p ys k x e h

-- none is left
pub find_none : {X : Type 0} (p : X → Bool) (xs : List X) (k : ℕ) → length xs ≤ k → find p (drop k xs) ≡ None
find_none p [] zero h = refl
find_none p [] (suc k) h = refl
find_none p (x ∷ xs) zero h = absurd (omega arith)
find_none p (x ∷ xs) (suc k) h = find_none p xs k (omega arith)
