-- Rows by their numbers, and rows that were renewed from the first one up.
use Rattle.std.proofs.Common.{◌≡◌, ℕ, zero, suc, ◌+◌, ◌*◌, ◌^◌, ◌<◌, ◌≤◌, List, [], ◌∷◌, ◌++◌, length, set, get_or, sym, ap, ◌∙◌, refl, subst, arith, lt_of_not-le}
use Rattle.std.proofs.lemmas.List.{nil_from_length}
use Rattle.std.specs.Prelude.{Vec}
use Rattle.std.specs.declared.alloc.Global.{Global}
use mathlib.Core.Logic.{dite}
use native.Mathlib.Decide.{dec_le}
use Rattle.prefix_scan.specs.Rows.{lifted, row_at, first_row, AreRows}
use Rattle.prefix_scan.proofs.PairLemmas.{lifted_same}

pub row_at-is : {M : Type 0} (rows : List (Vec M Global)) (l : ℕ) (d : Vec M Global) → l < length rows → row_at rows l ≡ (get_or rows l d).items
row_at-is [] l d h = absurd (omega arith)
row_at-is (r ∷ rs) zero d h = refl
row_at-is (r ∷ rs) (suc l) d h = row_at-is rs l d (omega arith)

-- a row that is set, and the others
pub row_at-set_same : {M : Type 0} (rows : List (Vec M Global)) (l : ℕ) (r : Vec M Global) → l < length rows → row_at (set rows l r) l ≡ r.items
row_at-set_same [] l r h = absurd (omega arith)
row_at-set_same (x ∷ rs) zero r h = refl
row_at-set_same (x ∷ rs) (suc l) r h = row_at-set_same rs l r (omega arith)

pub row_at-set_other : {M : Type 0} (rows : List (Vec M Global)) (l k : ℕ) (r : Vec M Global) → (k ≡ l → ⊥) → row_at (set rows l r) k ≡ row_at rows k
row_at-set_other [] l k r n = refl
row_at-set_other (x ∷ rs) zero zero r n = absurd (n refl)
row_at-set_other (x ∷ rs) zero (suc k) r n = refl
row_at-set_other (x ∷ rs) (suc l) zero r n = refl
row_at-set_other (x ∷ rs) (suc l) (suc k) r n = row_at-set_other rs l k r (λ e. n (ap suc e))

-- a row that is put behind the others
pub row_at-more : {M : Type 0} (rows : List (Vec M Global)) (r : Vec M Global) → row_at (rows ++ r ∷ []) (length rows) ≡ r.items
row_at-more [] r = refl
row_at-more (x ∷ rs) r = row_at-more rs r

pub row_at-before : {M : Type 0} (rows : List (Vec M Global)) (r : Vec M Global) (l : ℕ) → l < length rows → row_at (rows ++ r ∷ []) l ≡ row_at rows l
row_at-before [] r l h = absurd (omega arith)
row_at-before (x ∷ rs) r zero h = refl
row_at-before (x ∷ rs) r (suc l) h = row_at-before rs r l (omega arith)

-- where every row is what it has to be and none is above the last, the first is the list
pub first_is : {M : Type 0} (op : M → M → M) (xs : List M) (rows : List (Vec M Global)) → ((k : ℕ) → k < length rows → row_at rows k ≡ lifted op k xs) → length (lifted op (length rows) xs) ≡ 0 → row_at rows 0 ≡ xs
first_is op xs [] each none = sym (nil_from_length xs none)
first_is op xs (r ∷ rs) each none = each 0 (omega arith)

-- rows that were renewed up to the row l, above which nothing changes
pub renewed : {M : Type 0} (op : M → M → M) (old rows : List (Vec M Global)) (new : List M) (l : ℕ) → AreRows op old → length rows ≡ length old → length new ≡ length (first_row old) → l < length old
    → ((k : ℕ) → k < l + 1 → row_at rows k ≡ lifted op k new) → ((k : ℕ) → l + 1 ≤ k → row_at rows k ≡ row_at old k)
    → lifted op (l + 1) (first_row old) ≡ lifted op (l + 1) new
    → AreRows op rows × (first_row rows ≡ new)
renewed op old rows new l was same_length same_size low below above same =
    let first : first_row rows ≡ new = below 0 (omega arith) in (
      record {
        each = λ k h. dite (dec_le k l)
            (λ le. below k (omega arith) ∙ ap (lifted op k) (sym first))
            (λ not. let lt = lt_of_not-le not in above k (omega arith) ∙ was.each k (omega arith) ∙ lifted_same op (first_row old) new (l + 1) k same (omega arith) ∙ ap (lifted op k) (sym first));
        done = ap (λ (t : ℕ × List _). lifted op t.0 t.1) (λ i. (same_length i, first i)) ∙ sym (lifted_same op (first_row old) new (l + 1) (length old) same (omega arith)) ∙ was.done;
        tall = let t = was.tall in let n = ap length first in subst (λ k. 2 ^ k ≤ 2 * length (first_row rows) + 1) (sym same_length) (omega arith);
      },
      first,
    )
