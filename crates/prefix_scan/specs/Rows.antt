-- Bookkeeping: the rows of a tree. Each row has the joins of each two neighbours of the row below
-- it.
use Rattle.std.specs.Prelude.{◌≡◌, ℕ, zero, suc, ◌+◌, ◌-◌, ◌*◌, ◌^◌, ◌<◌, ◌≤◌, List, [], ◌∷◌}
use Rattle.std.specs.Prelude.{length, Option, None, Some, Vec, slice_index_or}
use Rattle.std.specs.Vec.{vec_capacity, vec_len}
use Rattle.std.specs.declared.alloc.Global.{Global}

-- each two neighbours joined; a last one that is alone is left out
abbrev pub paired : {M : Type 0} → (M → M → M) → List M → List M
paired op [] = []
paired op (x ∷ []) = []
paired op (x ∷ y ∷ xs) = op x y ∷ paired op xs

-- the row that is a number of rows further up
abbrev pub lifted : {M : Type 0} → (M → M → M) → ℕ → List M → List M
lifted op zero xs = xs
lifted op (suc l) xs = paired op (lifted op l xs)

-- the row of a number; empty past the last one
abbrev pub row_at : {M : Type 0} → List (Vec M Global) → ℕ → List M
row_at [] l = []
row_at (r ∷ rs) zero = r.items
row_at (r ∷ rs) (suc l) = row_at rs l

-- the first row is the list
abbrev pub first_row : {M : Type 0} → List (Vec M Global) → List M
first_row rows = row_at rows 0

-- each row but the first is the one above the row before it, none is above the last, and they are
-- few: two to the power of their number is at most one more than twice the length of the list
pub record AreRows {M : Type 0} (op : M → M → M) (rows : List (Vec M Global)) : Type 0 where
  pub each : (l : ℕ) → l < length rows → row_at rows l ≡ lifted op l (first_row rows)
  pub done : lifted op (length rows) (first_row rows) ≡ []
  pub tall : 2 ^ length rows ≤ 2 * length (first_row rows) + 1

-- a row into which the first values of a list were written, from a place on
pub record IsWritten {M : Type 0} (d : M) (at len : ℕ) (values old new : List M) : Type 0 where
  pub long : length new ≡ length old
  pub inside : (k : ℕ) → k < len → slice_index_or new (at + k) d ≡ slice_index_or values k d
  pub before : (k : ℕ) → k < at → slice_index_or new k d ≡ slice_index_or old k d
  pub behind : (k : ℕ) → at + len ≤ k → slice_index_or new k d ≡ slice_index_or old k d

-- rows of the same values
pub record AreSameRows {M : Type 0} (old new : List (Vec M Global)) : Type 0 where
  pub number : length new ≡ length old
  pub each : (l : ℕ) → row_at new l ≡ row_at old l

-- how many values more the row of a number takes where it is
abbrev pub spare_at : {M : Type 0} → List (Vec M Global) → ℕ → ℕ
spare_at [] l = 0
spare_at (r ∷ rs) zero = vec_capacity r - vec_len r
spare_at (r ∷ rs) (suc l) = spare_at rs l

-- each row takes a value more
abbrev pub HaveRoom : {M : Type 0} → List (Vec M Global) → Type 0
HaveRoom rows = (l : ℕ) → l < length rows → 0 < spare_at rows l

-- the rows of a list, but for one that has this value alone, where there is such a one
abbrev pub AreRowsBut : {M : Type 0} → (M → M → M) → List (Vec M Global) → List M → Option M
    → Type 0
AreRowsBut op rows xs None = AreRows op rows × (first_row rows ≡ xs)
AreRowsBut op rows xs (Some top) = ((l : ℕ) → l < length rows → row_at rows l ≡ lifted op l xs)
    × (lifted op (length rows) xs ≡ top ∷ [])
