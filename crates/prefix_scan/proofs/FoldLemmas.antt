-- What the laws give of folds and sizes.
use Rattle.std.proofs.Common.{◌≡◌, ℕ, zero, suc, ◌+◌, ◌<◌, ◌≤◌, List, [], ◌∷◌, ◌++◌, length, take, set, sum_by, sym, ap, ◌∙◌, refl, arith}
use Rattle.std.proofs.lemmas.List.Sums.{sum_by-set}
use Rattle.std.specs.List.{fold, scan}
use Rattle.prefix_scan.specs.Laws.{MonoidLaws}

-- sums of natural numbers, as a fold with a start
weighed_from : {M : Type 0} (w : M → ℕ) (a : ℕ) (xs : List M) → fold (λ s x. s + w x) a xs ≡ a + sum_by w xs
weighed_from w a [] = omega arith
weighed_from w a (x ∷ xs) = omega (arith, weighed_from w (a + w x) xs, weighed_from w (0 + w x) xs)

pub sum_by-cons : {M : Type 0} (w : M → ℕ) (x : M) (xs : List M) → sum_by w (x ∷ xs) ≡ w x + sum_by w xs
sum_by-cons w x xs = omega (arith, weighed_from w (0 + w x) xs)

-- a new value in a place adds at most its own size
pub sum_by-set_le : {M : Type 0} (w : M → ℕ) (xs : List M) (i : ℕ) (y : M) → i < length xs → sum_by w (set xs i y) ≤ sum_by w xs + w y
sum_by-set_le w xs i y h = omega (arith, sum_by-set w xs i y y h)

scan_suc : {M : Type 0} (op : M → M → M) (a : M) (xs : List M) (i : ℕ) → i < length xs → scan op (λ s x. s) a (take (suc i) xs) ≡ scan op (λ s x. s) a (take i xs) ++ fold op a (take i xs) ∷ []
scan_suc op a [] i h = absurd (omega arith)
scan_suc op a (x ∷ xs) zero h = refl
scan_suc op a (x ∷ xs) (suc i) h = ap (λ l. a ∷ l) (scan_suc op (op a x) xs i (omega arith))

pub scan_more : {M : Type 0} (op : M → M → M) (a : M) (xs : List M) (i : ℕ) → i < length xs → scan op (λ s x. s) a (take (i + 1) xs) ≡ scan op (λ s x. s) a (take i xs) ++ fold op a (take i xs) ∷ []
scan_more op a xs i h = let e : i + 1 ≡ suc i = omega arith in ap (λ k. scan op (λ s x. s) a (take k xs)) e ∙ scan_suc op a xs i h

module _ {M : Type 0} {most : ℕ} {empty : M} {op : M → M → M} {weight : M → ℕ} (laws : MonoidLaws most empty op weight) where
  -- from any first value, where the sizes fit
  fold_from-weight : (a : M) (xs : List M) → weight a + sum_by weight xs ≤ most → weight (fold op a xs) ≡ weight a + sum_by weight xs
  fold_from-weight a [] h = omega arith
  fold_from-weight a (x ∷ xs) h =
      let here = sum_by-cons weight x xs in
      let joined = laws.op_weight a x (omega arith) in
      omega (arith, fold_from-weight (op a x) xs (omega arith))

  pub fold-weight : (xs : List M) → sum_by weight xs ≤ most → weight (fold op empty xs) ≡ sum_by weight xs
  fold-weight xs h = let e = laws.empty_weight in omega (arith, fold_from-weight empty xs (omega arith))

  -- a value joined before a fold is a fold that begins with it
  pub fold-join : (a : M) (xs : List M) → weight a + sum_by weight xs ≤ most → fold op a xs ≡ op a (fold op empty xs)
  fold-join a [] h = sym (laws.right_identity a (omega arith))
  fold-join a (x ∷ xs) h =
      let here = sum_by-cons weight x xs in
      let none = laws.empty_weight in
      let first : op empty x ≡ x = laws.left_identity x (omega arith) in
      let joined = laws.op_weight a x (omega arith) in
      let later = fold-join (op a x) xs (omega arith) in
      let alone = fold-join x xs (omega arith) in
      let rest = fold-weight xs (omega arith) in
      later ∙ laws.assoc a x (fold op empty xs) (omega arith) ∙ ap (op a) (sym alone ∙ ap (λ y. fold op y xs) (sym first))
