-- Bookkeeping: the worst value of each row of a table, and a mark that it is worse than.
use Rattle.std.specs.Prelude.{ℕ, ℤ, Bool, true, false, List, slice_index_or, Option, None}
use Rattle.std.specs.Prelude.{Some}
use Rattle.fractions.specs.Marks.{at_mark}
use Rattle.worst_values.specs.Lowest.{lowest}
use Rattle.worst_values.specs.Worst.{Candidate, Safety, is_worse}

-- that of row j; none where there is no such row
abbrev pub row_of : List (Option Candidate) → ℕ → Option Candidate
row_of rows j = slice_index_or rows j None

-- a mark
abbrev pub mark_of : ℤ → Safety
mark_of m = record { beyond = false; by = lowest (at_mark m) }

-- the value of a row is worse than its mark, if it has one
abbrev pub is_marked : Option Candidate → Option ℤ → Bool
is_marked worst None = true
is_marked None (Some m) = false
is_marked (Some w) (Some m) = is_worse w.safety (mark_of m)
