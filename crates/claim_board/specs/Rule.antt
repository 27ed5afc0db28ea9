-- Bookkeeping: what each change of a board keeps, between its hands, the next number and the least
-- step. Chunk k begins with the step `begin k`, and its first failing step is `find k`.
use Rattle.std.specs.Prelude.{◌≡◌, ℕ, ◌<◌, List, Option, Some, None}
use Rattle.claim_board.specs.declared.entries.Stage.{Stage}
use Rattle.claim_board.specs.declared.entries.Stage.TheVariants.{Drawn, Looked, Skipped, Worked}
use Rattle.claim_board.specs.declared.entries.Stage.TheVariants.{Posted}
use Rattle.claim_board.specs.declared.entries.Entry.{Entry}
use Rattle.claim_board.specs.Entries.{total, below, Each, numbers, posts, NotBefore, AtMost}

abbrev pub FitsStage : (ℕ → ℕ) → (ℕ → Option ℕ) → ℕ → Option ℕ → Entry → Stage → Type 0
FitsStage begin find chunks least e Drawn = e.looked ≡ None
FitsStage begin find chunks least e Looked = e.number < chunks
FitsStage begin find chunks least e Skipped = (e.number < chunks)
    × ((l : ℕ) × (e.looked ≡ Some l) × (l < begin e.number))
FitsStage begin find chunks least e (Worked o) = (e.number < chunks) × (find e.number ≡ o)
    × NotBefore (begin e.number) e.looked
FitsStage begin find chunks least e (Posted f) = (e.number < chunks) × (find e.number ≡ Some f)
    × NotBefore (begin e.number) e.looked × AtMost least f

-- what is true of an entry of any of the hands: what it looked at is posted, and the least step is
-- at most that
pub record Fits (begin : ℕ → ℕ) (find : ℕ → Option ℕ) (chunks : ℕ) (least : Option ℕ)
    (hands : List (List Entry)) (e : Entry) : Type 0 where
  pub stage : FitsStage begin find chunks least e e.stage
  pub look : (l : ℕ) → e.looked ≡ Some l → AtMost least l × (0 < total (posts l) hands)

-- the numbers of all hands are those below next, each once; each entry fits; and the least step is
-- posted
pub record IsKept (begin : ℕ → ℕ) (find : ℕ → Option ℕ) (chunks next : ℕ) (least : Option ℕ)
    (hands : List (List Entry)) : Type 0 where
  pub once : (f : ℕ → ℕ) → total (numbers f) hands ≡ below f next
  pub fits : Each (Each (Fits begin find chunks least hands)) hands
  pub posted : (l : ℕ) → least ≡ Some l → 0 < total (posts l) hands
