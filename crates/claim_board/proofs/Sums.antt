-- Sums and facts over lists that change at one place.
use Rattle.std.proofs.Common.{◌≡◌, ◌≢◌, ℕ, zero, suc, ◌+◌, ◌<◌, ◌≤◌, List, [], ◌∷◌, ◌++◌, set, sym, refl, ap, ◌∙◌, subst, arith, cond, Some, eq-eqb, ne_eqb, lt_of_not-le, replicate}
use Rattle.std.specs.Prelude.{slice_get, nat_lt}
use Rattle.std.proofs.lemmas.Bool.Decides.{nat_tests}
use mathlib.Core.Logic.{dite}
use native.Mathlib.Decide.{dec_le, ℕ_discrete}
use Rattle.claim_board.specs.declared.entries.Entry.{Entry}
use Rattle.claim_board.specs.Entries.{total, Each, below, is}

-- a sum after one element was replaced
pub total-set : {A : Type 0} (g : A → ℕ) (xs : List A) (w : ℕ) (x y : A) → slice_get xs w ≡ Some x → total g (set xs w y) + g x ≡ total g xs + g y
total-set g [] w x y at = absurd (cc)
total-set g (a ∷ xs) zero x y at = let is : a ≡ x = cc in omega (arith, ap g is)
total-set g (a ∷ xs) (suc w) x y at = omega (arith, total-set g xs w x y at)

-- one element is at most the sum
pub total_at : {A : Type 0} (g : A → ℕ) (xs : List A) (w : ℕ) (x : A) → slice_get xs w ≡ Some x → g x ≤ total g xs
total_at g [] w x at = absurd (cc)
total_at g (a ∷ xs) zero x at = let is : a ≡ x = cc in omega (arith, ap g is)
total_at g (a ∷ xs) (suc w) x at = omega (arith, total_at g xs w x at)

pub total-append : {A : Type 0} (g : A → ℕ) (xs ys : List A) → total g (xs ++ ys) ≡ total g xs + total g ys
total-append g [] ys = omega arith
total-append g (x ∷ xs) ys = omega (arith, total-append g xs ys)

pub total-replicate : {A : Type 0} (g : A → ℕ) (n : ℕ) (x : A) → g x ≡ 0 → total g (replicate n x) ≡ 0
total-replicate g zero x z = refl
total-replicate g (suc n) x z = omega (arith, total-replicate g n x z)

pub get_set-same : {A : Type 0} (xs : List A) (w : ℕ) (x y : A) → slice_get xs w ≡ Some x → slice_get (set xs w y) w ≡ Some y
get_set-same [] w x y at = absurd (cc)
get_set-same (a ∷ xs) zero x y at = refl
get_set-same (a ∷ xs) (suc w) x y at = get_set-same xs w x y at

pub get_set-other : {A : Type 0} (xs : List A) (w k : ℕ) (y : A) → w ≢ k → slice_get (set xs w y) k ≡ slice_get xs k
get_set-other [] w k y apart = refl
get_set-other (a ∷ xs) zero zero y apart = absurd (apart refl)
get_set-other (a ∷ xs) zero (suc k) y apart = refl
get_set-other (a ∷ xs) (suc w) zero y apart = refl
get_set-other (a ∷ xs) (suc w) (suc k) y apart = get_set-other xs w k y (λ e. apart (ap suc e))

-- to write what stands there already changes nothing
pub set_same : {A : Type 0} (xs : List A) (w : ℕ) (x : A) → slice_get xs w ≡ Some x → set xs w x ≡ xs
set_same [] w x at = refl
set_same (a ∷ xs) zero x at = let is : a ≡ x = cc in ap (λ y. y ∷ xs) (sym is)
set_same (a ∷ xs) (suc w) x at = ap (λ l. a ∷ l) (set_same xs w x at)

pub set-swap : {A : Type 0} (xs : List A) (w k : ℕ) (x y : A) → w ≢ k → set (set xs w x) k y ≡ set (set xs k y) w x
set-swap [] w k x y apart = refl
set-swap (a ∷ xs) zero zero x y apart = absurd (apart refl)
set-swap (a ∷ xs) zero (suc k) x y apart = refl
set-swap (a ∷ xs) (suc w) zero x y apart = refl
set-swap (a ∷ xs) (suc w) (suc k) x y apart = ap (λ l. a ∷ l) (set-swap xs w k x y (λ e. apart (ap suc e)))

pub each_at : {A : Type 0} (P : A → Type 0) (xs : List A) (w : ℕ) (x : A) → Each P xs → slice_get xs w ≡ Some x → P x
each_at P [] w x all at = absurd (cc)
each_at P (a ∷ xs) zero x all at = let is : a ≡ x = cc in subst P is all.0
each_at P (a ∷ xs) (suc w) x all at = each_at P xs w x all.1 at

pub each_set : {A : Type 0} (P : A → Type 0) (xs : List A) (w : ℕ) (y : A) → P y → Each P xs → Each P (set xs w y)
each_set P [] w y mine all = tt
each_set P (x ∷ xs) zero y mine all = (mine, all.1)
each_set P (x ∷ xs) (suc w) y mine all = (all.0, each_set P xs w y mine all.1)

pub each_map : {A : Type 0} (P Q : A → Type 0) (xs : List A) → ((x : A) → P x → Q x) → Each P xs → Each Q xs
each_map P Q [] h all = tt
each_map P Q (x ∷ xs) h all = (h x all.0, each_map P Q xs h all.1)

pub each_both : {A : Type 0} (P Q : A → Type 0) (xs : List A) → Each P xs → Each Q xs → Each (λ x. P x × Q x) xs
each_both P Q [] a b = tt
each_both P Q (x ∷ xs) a b = ((a.0, b.0), each_both P Q xs a.1 b.1)

pub each_append : {A : Type 0} (P : A → Type 0) (xs ys : List A) → Each P xs → Each P ys → Each P (xs ++ ys)
each_append P [] ys a b = b
each_append P (x ∷ xs) ys a b = (a.0, each_append P xs ys a.1 b)

pub each_replicate : {A : Type 0} (P : A → Type 0) (n : ℕ) (x : A) → P x → Each P (replicate n x)
each_replicate P zero x p = tt
each_replicate P (suc n) x p = (p, each_replicate P n x p)

-- where a sum is positive, one of the elements counts
pub pick : {A : Type 0} (g : A → ℕ) (P : A → Type 0) (xs : List A) → Each P xs → 0 < total g xs → (x : A) × (0 < g x) × P x
pick g P [] all some = absurd (omega arith)
pick g P (x ∷ xs) all some =
    dite (dec_le 1 (g x))
    (λ here. (x, here, all.0))
    (λ no. let lt = lt_of_not-le no in pick g P xs all.1 (omega arith))

-- the same over all entries of a list of hands
pub pick_hand : (g : Entry → ℕ) (P : Entry → Type 0) (hands : List (List Entry)) → Each (Each P) hands → 0 < total (total g) hands → (e : Entry) × (0 < g e) × P e
pick_hand g P hands all some =
    let h = pick (total g) (Each P) hands all some in
    pick g P h.0 h.2 h.1

pub is_same : (k x : ℕ) → x ≡ k → is k x ≡ 1
is_same k x e = ap (λ b. cond b 1 0) (eq-eqb x k e)

pub is_other : (k x : ℕ) → x ≢ k → is k x ≡ 0
is_other k x n = ap (λ b. cond b 1 0) (ne_eqb x k n)

pub is_pos : (k x : ℕ) → 0 < is k x → x ≡ k
is_pos k x some = dite (ℕ_discrete x k) (λ e. e) (λ n. let z = is_other k x n in absurd (omega arith))

pub below-none : (k n : ℕ) → n ≤ k → below (is k) n ≡ 0
below-none k zero h = refl
below-none k (suc n) h = omega (arith, below-none k n (omega arith), is_other k n (λ e. absurd (omega arith)))

pub below-one : (k n : ℕ) → k < n → below (is k) n ≡ 1
below-one k zero h = absurd (omega arith)
below-one k (suc n) h =
    dite (ℕ_discrete n k)
    (λ e. omega (arith, is_same k n e, below-none k n (omega arith)))
    (λ n_other. omega (arith, is_other k n n_other, below-one k n (omega arith)))

pub below_is : (k n : ℕ) → below (is k) n ≡ cond (nat_lt k n) 1 0
below_is k n =
    dite (dec_le n k)
    (λ past. below-none k n past ∙ (let z : cond (nat_lt k n) 1 0 ≡ 0 = grind (arith, nat_tests) in sym z))
    (λ not. let lt = lt_of_not-le not in below-one k n lt ∙ (let z : cond (nat_lt k n) 1 0 ≡ 1 = grind (arith, nat_tests) in sym z))

pub below_more : (f : ℕ → ℕ) (n : ℕ) → below f (n + 1) ≡ below f n + f n
below_more f n = let e : n + 1 ≡ suc n = omega arith in ap (below f) e
