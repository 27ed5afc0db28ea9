-- Bookkeeping: the prefixes that are kept beside a list.
use Rattle.std.specs.Prelude.{◌≡◌, ℕ, ◌+◌, ◌≤◌, List, length, slice_index_or}
use Rattle.prefix_scan.specs.Folds.{prefix}

-- one of each length, from none to all
pub record AreSums {M : Type 0} (empty : M) (op : M → M → M) (values sums : List M) : Type 0 where
  pub count : length sums ≡ length values + 1
  pub each : (i : ℕ) (d : M) → i ≤ length values
      → slice_index_or sums i d ≡ prefix empty op values i
