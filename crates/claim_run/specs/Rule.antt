-- The rule of a run's table, which holds after every step on a word: what is true of a board
-- between its hands, the next number and the least step, and how the workers are shared out.
use Rattle.std.specs.Prelude.{◌≡◌, ℕ, ◌≤◌, List, [], length, slice_index, Option}
use mathlib.Core.Option.{some}
use lib.ListN.{get_elem?}
use Rattle.atomic_table.specs.Table.{State}
use Rattle.claim_board.specs.Entries.{total, numbers}
use Rattle.claim_board.specs.Rule.{IsKept}
use Rattle.claim_run.specs.declared.views.View.{View}
use Rattle.claim_run.specs.Views.{hands_of, least_of, late}

-- F of each view
abbrev pub Views : (View → Type 0) → List View → Type 0
Views F views = (id : ℕ) (v : View) → get_elem? views id ≡ some v → F v

pub record IsRuled (begin : ℕ → ℕ) (find : ℕ → Option ℕ) (pieces workers : ℕ)
    (s : State Unit View) : Type 0 where
  pub words : length s.words ≡ 2
  pub kept : IsKept begin find pieces (slice_index s.words 0) (least_of (slice_index s.words 1))
      (hands_of s.views)
  -- the views stand for all workers
  pub staffed : total (λ (v : View). v.workers) s.views ≡ workers
  -- and each for at least as many as it has numbers past the last chunk
  pub few : Views (λ v. numbers (late pieces) v.entries ≤ v.workers) s.views
  -- what a joined seat leaves stands for no worker and has no entry
  pub spent : Views (λ v. v.workers ≡ 0 → v.entries ≡ []) s.views
