-- The table of a run. Word 0 is the next number; word 1 is the least posted step, or the greatest
-- u64 for none. A seat sees the entries of the workers that it stands for.
use Rattle.std.specs.Prelude.{ℕ, List, map, cond, nat_lt, nat_eq, Option, Some, None}
use Rattle.claim_board.specs.declared.entries.Entry.{Entry}
use Rattle.claim_run.specs.declared.views.View.{View}

abbrev pub view : ℕ → List Entry → View
view n es = record { workers = n; entries = es }

-- the hands that the views show
abbrev pub hands_of : List View → List (List Entry)
hands_of views = map (λ (v : View). v.entries) views

-- what word 1 is where nothing is posted
abbrev pub no_step : ℕ
no_step = 18446744073709551615

-- the least posted step that word 1 stands for
abbrev pub least_of : ℕ → Option ℕ
least_of n = cond (nat_eq n no_step) None (Some n)

-- 1 for a number that is no chunk's, and 0 for a chunk's
abbrev pub late : ℕ → ℕ → ℕ
late pieces x = cond (nat_lt x pieces) 0 1
