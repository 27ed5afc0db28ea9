-- What the row above a row keeps of it.
use Rattle.std.proofs.Common.{◌≡◌, ℕ, zero, suc, ◌+◌, ◌*◌, ◌/◌, ◌%◌, ◌<◌, ◌≤◌, List, [], ◌∷◌, length, take, set, get_or, sum_by, sym, ap, ◌∙◌, refl, subst, arith, ⊎_elim, get_or-set_same, get_or-set_other}
use Rattle.std.proofs.Math.Nat.{eq-or-lt_of_le}
use Rattle.std.proofs.lemmas.List.{set_past}
use Rattle.std.proofs.lemmas.List.Sums.{sum_by_more, sum_by_more_le}
use Rattle.std.specs.List.{fold}
use mathlib.Core.Logic.{dite}
use native.Mathlib.Decide.{ℕ_discrete}
use Rattle.prefix_scan.specs.Laws.{MonoidLaws}
use Rattle.prefix_scan.specs.Rows.{paired, lifted}
use Rattle.prefix_scan.proofs.FoldLemmas.{sum_by-cons}

-- half as many, and the pair at each place
pub length-paired : {M : Type 0} (op : M → M → M) (xs : List M) → length (paired op xs) ≡ length xs / 2
length-paired op [] = refl
length-paired op (x ∷ []) = refl
length-paired op (x ∷ y ∷ xs) = omega (arith, length-paired op xs)

pub paired-at : {M : Type 0} (op : M → M → M) (d : M) (xs : List M) (k i : ℕ) → i ≡ 2 * k → i + 1 < length xs → get_or (paired op xs) k d ≡ op (get_or xs i d) (get_or xs (suc i) d)
paired-at op d [] k i e h = absurd (omega arith)
paired-at op d (x ∷ []) k i e h = absurd (omega arith)
paired-at op d (x ∷ y ∷ xs) zero zero e h = refl
paired-at op d (x ∷ y ∷ xs) zero (suc i) e h = absurd (omega arith)
paired-at op d (x ∷ y ∷ xs) (suc k) zero e h = absurd (omega arith)
paired-at op d (x ∷ y ∷ xs) (suc k) (suc zero) e h = absurd (omega arith)
paired-at op d (x ∷ y ∷ xs) (suc k) (suc (suc i)) e h = paired-at op d xs k i (omega arith) (omega arith)

-- an even place is set
pub paired-set_even : {M : Type 0} (op : M → M → M) (d : M) (v : M) (xs : List M) (k i : ℕ) → i ≡ 2 * k → paired op (set xs i v) ≡ set (paired op xs) k (op v (get_or xs (suc i) d))
paired-set_even op d v [] k i e = refl
paired-set_even op d v (x ∷ []) k zero e = refl
paired-set_even op d v (x ∷ []) k (suc i) e = refl
paired-set_even op d v (x ∷ y ∷ xs) zero zero e = refl
paired-set_even op d v (x ∷ y ∷ xs) zero (suc i) e = absurd (omega arith)
paired-set_even op d v (x ∷ y ∷ xs) (suc k) zero e = absurd (omega arith)
paired-set_even op d v (x ∷ y ∷ xs) (suc k) (suc zero) e = absurd (omega arith)
paired-set_even op d v (x ∷ y ∷ xs) (suc k) (suc (suc i)) e = ap (λ l. op x y ∷ l) (paired-set_even op d v xs k i (omega arith))

-- the place after an even one is set
pub paired-set_odd : {M : Type 0} (op : M → M → M) (d : M) (v : M) (xs : List M) (k i : ℕ) → i ≡ 2 * k → paired op (set xs (suc i) v) ≡ set (paired op xs) k (op (get_or xs i d) v)
paired-set_odd op d v [] k i e = refl
paired-set_odd op d v (x ∷ []) k i e = refl
paired-set_odd op d v (x ∷ y ∷ xs) zero zero e = refl
paired-set_odd op d v (x ∷ y ∷ xs) zero (suc i) e = absurd (omega arith)
paired-set_odd op d v (x ∷ y ∷ xs) (suc k) zero e = absurd (omega arith)
paired-set_odd op d v (x ∷ y ∷ xs) (suc k) (suc zero) e = absurd (omega arith)
paired-set_odd op d v (x ∷ y ∷ xs) (suc k) (suc (suc i)) e = ap (λ l. op x y ∷ l) (paired-set_odd op d v xs k i (omega arith))

-- rows that are equal are equal from there up
pub lifted_same : {M : Type 0} (op : M → M → M) (xs ys : List M) (a l : ℕ) → lifted op a xs ≡ lifted op a ys → a ≤ l → lifted op l xs ≡ lifted op l ys
lifted_same op xs ys a zero e h = let z : a ≡ 0 = omega arith in subst (λ n. lifted op n xs ≡ lifted op n ys) z e
lifted_same op xs ys a (suc l) e h =
    ⊎_elim
    (λ (is : a ≡ suc l). subst (λ n. lifted op n xs ≡ lifted op n ys) is e)
    (λ (le : a < suc l). ap (paired op) (lifted_same op xs ys a l e (omega arith)))
    (eq-or-lt_of_le h)

-- a value that is set shows in the pair at half its place
pub paired-set : {M : Type 0} (op : M → M → M) (d v : M) (xs : List M) (at left : ℕ) → left ≡ at / 2 * 2 → at < length xs → left + 1 < length xs
    → paired op (set xs at v) ≡ set (paired op xs) (at / 2) (op (get_or (set xs at v) left d) (get_or (set xs at v) (left + 1) d))
paired-set op d v xs at left is low both =
    let h = at / 2 in
    let next : suc left ≡ left + 1 = omega arith in
    dite (ℕ_discrete (at % 2) 0)
    (λ no. let e : at ≡ left = omega arith in
    let apart : left + 1 ≡ at → ⊥ = λ x. absurd (omega arith) in
    let a : get_or (set xs at v) left d ≡ v = ap (λ n. get_or (set xs at v) n d) (sym e) ∙ get_or-set_same xs at v d low in
    let b : get_or (set xs at v) (left + 1) d ≡ get_or xs (suc at) d = get_or-set_other xs at (left + 1) v d apart ∙ ap (λ n. get_or xs n d) (sym next ∙ ap suc (sym e)) in
    paired-set_even op d v xs h at (omega arith) ∙ ap (set (paired op xs) h) (λ i. op (sym a i) (sym b i)))
    (λ yes. let e : at ≡ suc left = omega arith in
    let apart : left ≡ at → ⊥ = λ x. absurd (omega arith) in
    let a : get_or (set xs at v) left d ≡ get_or xs left d = get_or-set_other xs at left v d apart in
    let b : get_or (set xs at v) (left + 1) d ≡ v = ap (λ n. get_or (set xs at v) n d) (sym next ∙ sym e) ∙ get_or-set_same xs at v d low in
    ap (λ n. paired op (set xs n v)) e ∙ paired-set_odd op d v xs h left (omega arith) ∙ ap (set (paired op xs) h) (λ i. op (sym a i) (sym b i)))

-- a last value that is alone doesn't show above
pub paired-alone : {M : Type 0} (op : M → M → M) (v : M) (xs : List M) (at : ℕ) → length xs ≤ at / 2 * 2 + 1 → paired op (set xs at v) ≡ paired op xs
paired-alone op v xs at alone =
    let h = at / 2 in
    let short : length (paired op xs) ≤ h = omega (arith, length-paired op xs) in
    dite (ℕ_discrete (at % 2) 0)
    (λ no. paired-set_even op v v xs h at (omega arith) ∙ set_past (paired op xs) h (op v (get_or xs (suc at) v)) short)
    (λ yes. let e : at ≡ suc (2 * h) = omega arith in
    ap (λ n. paired op (set xs n v)) e ∙ paired-set_odd op v v xs h (2 * h) refl ∙ set_past (paired op xs) h (op (get_or xs (2 * h) v) v) short)

module _ {M : Type 0} {most : ℕ} {empty : M} {op : M → M → M} {weight : M → ℕ} (laws : MonoidLaws most empty op weight) where
  -- the sizes of a row above add up to no more
  pub paired-weight : (xs : List M) → sum_by weight xs ≤ most → sum_by weight (paired op xs) ≤ sum_by weight xs
  paired-weight [] h = omega arith
  paired-weight (x ∷ []) h = let z : sum_by weight (paired op (x ∷ [])) ≡ 0 = refl in omega arith
  paired-weight (x ∷ y ∷ xs) h =
      let a = sum_by-cons weight x (y ∷ xs) in
      let b = sum_by-cons weight y xs in
      let c = sum_by-cons weight (op x y) (paired op xs) in
      let joined = laws.op_weight x y (omega arith) in
      omega (arith, paired-weight xs (omega arith))

  pub lifted-weight : (l : ℕ) (xs : List M) → sum_by weight xs ≤ most → sum_by weight (lifted op l xs) ≤ most
  lifted-weight zero xs h = h
  lifted-weight (suc l) xs h = let below = lifted-weight l xs h in omega (arith, paired-weight (lifted op l xs) below)

  -- the values of an even number of places, two by two
  pub fold-paired : (a : M) (xs : List M) (k i : ℕ) → i ≡ 2 * k → i ≤ length xs → weight a + sum_by weight xs ≤ most → fold op a (take i xs) ≡ fold op a (take k (paired op xs))
  fold-paired a xs zero zero e h w = refl
  fold-paired a xs zero (suc i) e h w = absurd (omega arith)
  fold-paired a xs (suc k) zero e h w = absurd (omega arith)
  fold-paired a xs (suc k) (suc zero) e h w = absurd (omega arith)
  fold-paired a [] (suc k) (suc (suc i)) e h w = absurd (omega arith)
  fold-paired a (x ∷ []) (suc k) (suc (suc i)) e h w = absurd (omega arith)
  fold-paired a (x ∷ y ∷ xs) (suc k) (suc (suc i)) e h w =
      let p = sum_by-cons weight x (y ∷ xs) in
      let q = sum_by-cons weight y xs in
      let ax = laws.op_weight a x (omega arith) in
      let axy = laws.op_weight (op a x) y (omega arith) in
      fold-paired (op (op a x) y) xs k i (omega arith) (omega arith) (omega arith) ∙ ap (λ b. fold op b (take k (paired op xs))) (laws.assoc a x y (omega arith))

  -- two neighbours together
  pub two-weight : (d : M) (xs : List M) (i : ℕ) → i + 1 < length xs → weight (get_or xs i d) + weight (get_or xs (i + 1) d) ≤ sum_by weight xs
  two-weight d xs i h = omega (arith, sum_by_more weight xs i d (omega arith), sum_by_more_le weight xs (i + 1) d h)
