-- Rows with one value more at the end, and rows that are cut short.
use Rattle.std.proofs.Common.{◌≡◌, ℕ, zero, suc, ◌+◌, ◌-◌, ◌*◌, ◌/◌, ◌%◌, ◌^◌, ◌<◌, ◌≤◌, List, [], ◌∷◌, ◌++◌, length, take, set, get_or, sym, ap, ◌∙◌, refl, subst, arith, length-append, below_more, length-set, lt_of_not-le}
use mathlib.Core.Logic.{dite}
use native.Mathlib.Decide.{dec_le, ℕ_discrete}
use Rattle.std.specs.Prelude.{Vec}
use Rattle.std.specs.Vec.{vec_capacity, vec_len}
use Rattle.std.specs.declared.alloc.Global.{Global}
use Rattle.prefix_scan.specs.Rows.{paired, lifted, row_at, first_row, spare_at, AreRows, AreSameRows}
use Rattle.prefix_scan.proofs.HeightLemmas.{grow_tall, grow_low}
use Rattle.prefix_scan.proofs.PairLemmas.{length-paired, lifted_same}
use Rattle.prefix_scan.proofs.RowLemmas.{first_is, row_at-is, row_at-more, row_at-before, row_at-set_same, row_at-set_other}

-- a value behind pairs is alone
pub paired-alone_more : {M : Type 0} (op : M → M → M) (xs : List M) (v : M) → length xs % 2 ≡ 0 → paired op (xs ++ v ∷ []) ≡ paired op xs
paired-alone_more op [] v h = refl
paired-alone_more op (x ∷ []) v h = absurd (omega (arith, h))
paired-alone_more op (x ∷ y ∷ xs) v h = ap (λ l. op x y ∷ l) (paired-alone_more op xs v (omega (arith, h)))

-- a value behind one that is alone makes a pair with it
pub paired-pair_more : {M : Type 0} (op : M → M → M) (d : M) (xs : List M) (v : M) (i : ℕ) → suc i ≡ length xs → length xs % 2 ≡ 1
    → paired op (xs ++ v ∷ []) ≡ paired op xs ++ op (get_or (xs ++ v ∷ []) i d) (get_or (xs ++ v ∷ []) (suc i) d) ∷ []
paired-pair_more op d [] v i e h = absurd (omega (arith, e))
paired-pair_more op d (x ∷ []) v zero e h = refl
paired-pair_more op d (x ∷ []) v (suc i) e h = absurd (omega (arith, e))
paired-pair_more op d (x ∷ y ∷ xs) v zero e h = absurd (omega (arith, e))
paired-pair_more op d (x ∷ y ∷ xs) v (suc zero) e h = absurd (omega (arith, e, h))
paired-pair_more op d (x ∷ y ∷ xs) v (suc (suc i)) e h = ap (λ l. op x y ∷ l) (paired-pair_more op d xs v i (omega (arith, e)) (omega (arith, h)))

-- the first values of a row, and the pairs of them
take_none : {M : Type 0} (n : ℕ) → take {0} {A = M} n [] ≡ []
take_none zero = refl
take_none (suc n) = refl

pub paired-take : {M : Type 0} (op : M → M → M) (n : ℕ) (xs : List M) → paired op (take n xs) ≡ take (n / 2) (paired op xs)
paired-take op zero xs = refl
paired-take op (suc zero) [] = refl
paired-take op (suc zero) (x ∷ xs) = refl
paired-take op (suc (suc n)) [] = sym (take_none (suc (suc n) / 2))
paired-take op (suc (suc n)) (x ∷ []) = sym (take_none (suc (suc n) / 2))
paired-take op (suc (suc n)) (x ∷ y ∷ xs) =
    let half : suc (n / 2) ≡ suc (suc n) / 2 = omega arith in
    ap (λ l. op x y ∷ l) (paired-take op n xs) ∙ ap (λ k. take k (op x y ∷ paired op xs)) half

-- a row has a part of the list's length
pub lifted-low : {M : Type 0} (op : M → M → M) (l : ℕ) (xs : List M) → 2 ^ l * length (lifted op l xs) ≤ length xs
lifted-low op zero xs = omega arith
lifted-low op (suc l) xs =
    subst (λ n. 2 ^ suc l * n ≤ length xs) (sym (length-paired op (lifted op l xs))) (grow_low l (length (lifted op l xs)) (length xs) (lifted-low op l xs))

-- rows that are each what they have to be are the rows of the list
pub are_rows : {M : Type 0} (op : M → M → M) (rows : List (Vec M Global)) (xs : List M) → ((k : ℕ) → k < length rows → row_at rows k ≡ lifted op k xs) → lifted op (length rows) xs ≡ []
    → 2 ^ length rows ≤ 2 * length xs + 1 → AreRows op rows × (first_row rows ≡ xs)
are_rows op rows xs each done tall =
    let first : first_row rows ≡ xs = first_is op xs rows each (ap length done) in (
      record {
        each = λ k h. each k h ∙ ap (lifted op k) (sym first);
        done = ap (lifted op (length rows)) first ∙ done;
        tall = subst (λ l. 2 ^ length rows ≤ 2 * length l + 1) (sym first) tall;
      },
      first,
    )

-- rows of the same values are rows too
pub same_rows : {M : Type 0} (op : M → M → M) (old new : List (Vec M Global)) → AreRows op old → AreSameRows old new → AreRows op new × (first_row new ≡ first_row old)
same_rows op old new are same =
    are_rows op new (first_row old) (λ k h. same.each k ∙ are.each k (omega (arith, h, same.number)))
    (ap (λ n. lifted op n (first_row old)) same.number ∙ are.done) (subst (λ n. 2 ^ n ≤ 2 * length (first_row old) + 1) (sym same.number) are.tall)

-- with a row of one value above all others
pub topped : {M : Type 0} (op : M → M → M) (rows : List (Vec M Global)) (xs : List M) (top : M) (r : Vec M Global) → ((k : ℕ) → k < length rows → row_at rows k ≡ lifted op k xs)
    → lifted op (length rows) xs ≡ top ∷ [] → r.items ≡ top ∷ [] → AreRows op (rows ++ r ∷ []) × (first_row (rows ++ r ∷ []) ≡ xs)
topped op rows xs top r each last is =
    let n = length rows in
    let count : length (rows ++ r ∷ []) ≡ suc n = omega (arith, length-append rows (r ∷ [])) in
    let one : length (lifted op n xs) ≡ 1 = ap length last in
    let tall = grow_tall n 1 (length xs) (subst (λ k. 2 ^ n * k ≤ length xs) one (lifted-low op n xs)) (omega arith) in
    are_rows op (rows ++ r ∷ []) xs
    (λ k low. by_place k (omega (arith, low, count)))
    (ap (λ k. lifted op k xs) count ∙ ap (paired op) last)
    (subst (λ k. 2 ^ k ≤ 2 * length xs + 1) (sym count) tall) where
      open_below : (k : ℕ) → k < length rows → row_at (rows ++ r ∷ []) k ≡ lifted op k xs
      open_below k low = row_at-before rows r k low ∙ each k low

      by_place : (k : ℕ) → k < length rows + 1 → row_at (rows ++ r ∷ []) k ≡ lifted op k xs
      by_place = below_more (λ k. row_at (rows ++ r ∷ []) k ≡ lifted op k xs) (length rows) open_below (row_at-more rows r ∙ is ∙ sym last)

-- rows that have a value more up to the row l, above which nothing changes
pub grown : {M : Type 0} (op : M → M → M) (old rows : List (Vec M Global)) (new : List M) (l : ℕ) → AreRows op old → length rows ≡ length old → length (first_row old) ≤ length new → l < length old
    → ((k : ℕ) → k < l + 1 → row_at rows k ≡ lifted op k new) → ((k : ℕ) → l + 1 ≤ k → row_at rows k ≡ row_at old k)
    → lifted op (l + 1) (first_row old) ≡ lifted op (l + 1) new
    → AreRows op rows × (first_row rows ≡ new)
grown op old rows new l was same_length longer low below above same =
    are_rows op rows new
    (λ k h. dite (dec_le k l)
    (λ le. below k (omega (arith, le)))
    (λ not. let lt = lt_of_not-le not in above k (omega (arith, lt)) ∙ was.each k (omega (arith, h, same_length)) ∙ lifted_same op (first_row old) new (l + 1) k same (omega (arith, lt))))
    (ap (λ n. lifted op n new) same_length ∙ sym (lifted_same op (first_row old) new (l + 1) (length old) same (omega (arith, low))) ∙ was.done)
    (let t = was.tall in subst (λ n. 2 ^ n ≤ 2 * length new + 1) (sym same_length) (omega (arith, longer, t)))

-- the room of a row, and of the others where one is set
pub spare_at-is : {M : Type 0} (rows : List (Vec M Global)) (l : ℕ) (d : Vec M Global) → l < length rows → spare_at rows l ≡ vec_capacity (get_or rows l d) - vec_len (get_or rows l d)
spare_at-is [] l d h = absurd (omega (arith, h))
spare_at-is (r ∷ rs) zero d h = refl
spare_at-is (r ∷ rs) (suc l) d h = spare_at-is rs l d (omega (arith, h))

pub spare_at-set_same : {M : Type 0} (rows : List (Vec M Global)) (l : ℕ) (r : Vec M Global) → l < length rows → spare_at (set rows l r) l ≡ vec_capacity r - vec_len r
spare_at-set_same [] l r h = absurd (omega (arith, h))
spare_at-set_same (x ∷ rs) zero r h = refl
spare_at-set_same (x ∷ rs) (suc l) r h = spare_at-set_same rs l r (omega (arith, h))

pub spare_at-set_other : {M : Type 0} (rows : List (Vec M Global)) (l k : ℕ) (r : Vec M Global) → (k ≡ l → ⊥) → spare_at (set rows l r) k ≡ spare_at rows k
spare_at-set_other [] l k r n = refl
spare_at-set_other (x ∷ rs) zero zero r n = absurd (n refl)
spare_at-set_other (x ∷ rs) zero (suc k) r n = refl
spare_at-set_other (x ∷ rs) (suc l) zero r n = refl
spare_at-set_other (x ∷ rs) (suc l) (suc k) r n = spare_at-set_other rs l k r (λ e. n (ap suc e))

-- a row that has the same values as before is set
pub same_set : {M : Type 0} (old rows : List (Vec M Global)) (l : ℕ) (d r : Vec M Global) → AreSameRows old rows → l < length rows → r.items ≡ (get_or rows l d).items
    → AreSameRows old (set rows l r)
same_set old rows l d r same low is = record {
  number = length-set rows l r ∙ same.number;
  each = λ k. dite (ℕ_discrete k l)
      (λ here. subst (λ n. row_at (set rows l r) n ≡ row_at old n) (sym here) (row_at-set_same rows l r low ∙ is ∙ sym (row_at-is rows l d low) ∙ same.each l))
      (λ other. row_at-set_other rows l k r other ∙ same.each k);
}

-- the first rows
pub row_at-take : {M : Type 0} (rows : List (Vec M Global)) (n k : ℕ) → k < n → row_at (take n rows) k ≡ row_at rows k
row_at-take rows zero k h = absurd (omega (arith, h))
row_at-take [] (suc n) k h = refl
row_at-take (r ∷ rs) (suc n) zero h = refl
row_at-take (r ∷ rs) (suc n) (suc k) h = row_at-take rs n k (omega (arith, h))
