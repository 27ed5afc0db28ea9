-- What the rule of a table says of every state that keeps it, in the words of the board.
use Rattle.std.specs.Prelude.{ℕ, ◌+◌, ◌≤◌, List, slice_index, Option}
use Rattle.atomic_table.specs.Table.{State}
use Rattle.claim_board.specs.Claims.{IsFair, IsLeastPosted, SkipsAreRight}
use Rattle.claim_run.specs.declared.views.View.{View}
use Rattle.claim_run.specs.Views.{hands_of, least_of}
use Rattle.claim_run.specs.Rule.{IsRuled}

-- the hands that the views show hold each number below word 0 once, word 1 is the least of their
-- posts, they skip only what they may, and word 0 is at most the number of chunks and the workers
pub record IsRightBoard (begin : ℕ → ℕ) (pieces workers : ℕ) (s : State Unit View) : Type 0 where
  pub numbers : IsFair (slice_index s.words 0) (hands_of s.views)
  pub least : IsLeastPosted (least_of (slice_index s.words 1)) (hands_of s.views)
  pub skips : SkipsAreRight begin (hands_of s.views)
  pub most : slice_index s.words 0 ≤ pieces + workers

abbrev pub EveryStateIsRight : Type 0
EveryStateIsRight = (begin : ℕ → ℕ) (find : ℕ → Option ℕ) (pieces workers : ℕ)
    (s : State Unit View) → IsRuled begin find pieces workers s
    → IsRightBoard begin pieces workers s
