-- Reading a table: a straight line between two neighbouring rows, and no value outside of the
-- table.
use Rattle.std.specs.Prelude.{◌≡◌, ℕ, ◌+◌, ◌-◌, ◌<◌, ◌≤◌, ◌⊎◌, ℤ, pos, ◌+ℤ◌, ◌-ℤ◌, ◌*ℤ◌, ◌≤ℤ◌, ◌<ℤ◌}
use Rattle.std.specs.Prelude.{List, [], ◌∷◌, length, Option, Some, None, unsigned_abs}
use Rattle.std.specs.Prelude.{slice_index_or, if◌then◌else◌, int_lt}
use Rattle.units_core.specs.Ratio.{Ratio, ◌over◌}

-- the ratio is the value at x on the line through (x0, y0) and (x1, y1): y (x1 - x0) = y0 (x1 - x)
-- + y1 (x - x0)
abbrev pub IsOnLine : Ratio → ℤ → ℤ → ℤ → ℤ → ℤ → Type 0
IsOnLine y x x0 y0 x1 y1 =
    y.top *ℤ (x1 -ℤ x0) ≡ ((y0 *ℤ (x1 -ℤ x)) +ℤ (y1 *ℤ (x -ℤ x0))) *ℤ y.bottom

-- the k-th number of a column
abbrev pub at : List ℤ → ℕ → ℤ
at xs k = slice_index_or xs k (pos 0)

-- the number of the first upper end that is not below x, counted from i
abbrev pub climb : List ℤ → ℤ → ℕ → Option ℕ
climb [] x i = None
climb (upper ∷ rest) x i = (if int_lt upper x then climb rest x (i + 1) else Some i)

-- The interval of the arguments in which x lies: the first whose upper end is not below x. At a row
-- that two intervals share either gives the same value. None outside of the table.
abbrev pub interval : List ℤ → ℤ → Option ℕ
interval [] x = None
interval (first ∷ rest) x = (if int_lt x first then None else climb rest x 0)

-- x lies between the i-th argument and the next
pub record Encloses (xs : List ℤ) (i : ℕ) (x : ℤ) : Type 0 where
  pub inside : i + 1 < length xs
  pub from : at xs i ≤ℤ x
  pub to : x ≤ℤ at xs (i + 1)

-- x is below the first argument or above the last
abbrev pub IsOutside : List ℤ → ℤ → Type 0
IsOutside xs x = (x <ℤ at xs 0) ⊎ (at xs (length xs - 1) <ℤ x)

-- the value at x of the column ys, on the line through the rows i and i + 1
abbrev pub reading : List ℤ → List ℤ → ℕ → ℤ → Ratio
reading xs ys i x = ((at ys i *ℤ (at xs (i + 1) -ℤ x)) +ℤ (at ys (i + 1) *ℤ (x -ℤ at xs i))) over
    (at xs (i + 1) -ℤ at xs i)

-- each argument is above the one before it
abbrev pub IsRising : List ℤ → Type 0
IsRising xs = (i : ℕ) → i + 1 < length xs → at xs i <ℤ at xs (i + 1)

-- the arguments rise, by no more than m from row to row
pub record Rises (m : ℕ) (xs : List ℤ) : Type 0 where
  pub rises : IsRising xs
  pub gaps : (i : ℕ) → i + 1 < length xs → (at xs (i + 1) -ℤ at xs i) ≤ℤ pos m

-- each number of the column is of size m at most
abbrev pub IsWithin : ℕ → List ℤ → Type 0
IsWithin m xs = (k : ℕ) → unsigned_abs (at xs k) ≤ m

-- each number of the column is positive
abbrev pub IsPositive : List ℤ → Type 0
IsPositive xs = (k : ℕ) → k < length xs → pos 1 ≤ℤ at xs k
