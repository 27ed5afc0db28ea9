-- What a hand did, with what is still to enter its view, and what one turn adds.
use Rattle.std.specs.Prelude.{◌≡◌, ℕ, ◌+◌, ◌<◌, ◌≤◌, List, [], ◌∷◌, Some, None, Option}
use Rattle.claim_board.specs.declared.entries.Stage.TheVariants.{Drawn, Looked, Skipped, Worked}
use Rattle.claim_board.specs.declared.entries.Stage.TheVariants.{Posted}
use Rattle.claim_board.specs.declared.entries.Entry.{Entry}
use Rattle.claim_board.specs.Entries.{Each, fresh, ended, numbers, NotBefore}
use Rattle.claim_run.specs.declared.views.View.{View}
use Rattle.claim_run.specs.declared.views.Pending.{Pending}
use Rattle.claim_run.specs.declared.views.Pending.TheVariants as pending
use Rattle.claim_run.specs.Views.{late}
use Rattle.claim_run.specs.Plays.{on_newest, AtMostAll}

-- the entries of a view, with what has become of the newest
abbrev pub entries_with : Pending → List Entry → List Entry
entries_with pending.Nothing es = es
entries_with pending.Skip es = on_newest (ended Skipped) es
entries_with pending.Work es = on_newest (ended (Worked None)) es

-- what the next draw may say of the newest entry
abbrev pub IsDue : (ℕ → ℕ) → (ℕ → Option ℕ) → Pending → Entry → Type 0
IsDue begin find pending.Nothing e = Unit {0}
IsDue begin find pending.Skip e = (l : ℕ) × (e.looked ≡ Some l) × (l < begin e.number)
IsDue begin find pending.Work e = (find e.number ≡ None) × NotBefore (begin e.number) e.looked

-- the newest entry has looked, and may end so
abbrev pub MayEnd : (ℕ → ℕ) → (ℕ → Option ℕ) → Pending → List Entry → Type 0
MayEnd begin find pending.Nothing es = Unit {0}
MayEnd begin find pending.Skip es = (e : Entry) × (rest : List Entry) × (es ≡ e ∷ rest)
    × (e.stage ≡ Looked) × IsDue begin find pending.Skip e
MayEnd begin find pending.Work es = (e : Entry) × (rest : List Entry) × (es ≡ e ∷ rest)
    × (e.stage ≡ Looked) × IsDue begin find pending.Work e

-- fewer of its numbers are past the last chunk than it stands for workers
abbrev pub IsFree : ℕ → View → Type 0
IsFree pieces v = numbers (late pieces) v.entries + 1 ≤ v.workers

-- How a chunk ends: its look gave a step before it and it is skipped, or it has no failing step, or
-- its step is posted.
pub data HasEnded (begin : ℕ → ℕ) (find : ℕ → Option ℕ) (e : Entry) : Type 0 where
  passed : (l : ℕ) → e.stage ≡ Skipped → e.looked ≡ Some l → l < begin e.number
      → HasEnded begin find e
  clear : e.stage ≡ Worked None → find e.number ≡ None → NotBefore (begin e.number) e.looked
      → HasEnded begin find e
  told : (f : ℕ) → e.stage ≡ Posted f → find e.number ≡ Some f
      → NotBefore (begin e.number) e.looked → HasEnded begin find e

-- one entry more, numbered k, which has ended
abbrev pub TookTurn : (ℕ → ℕ) → (ℕ → Option ℕ) → ℕ → List Entry → List Entry → Type 0
TookTurn begin find k before after = (e : Entry) × (after ≡ e ∷ before) × (e.number ≡ k)
    × HasEnded begin find e

-- the newest entry's look is at most each step that was looked at or posted before
abbrev pub LooksBack : List Entry → List Entry → Type 0
LooksBack before after = (e : Entry) × (after ≡ e ∷ before) × AtMostAll e.looked before

-- one entry more, of a number past the last chunk
abbrev pub DrewLate : ℕ → List Entry → List Entry → Type 0
DrewLate pieces before after = (n : ℕ) × (after ≡ fresh n ∷ before) × (pieces ≤ n)
