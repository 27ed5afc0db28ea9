-- Bookkeeping: what the workers of a run give back.
use Rattle.std.specs.Prelude.{◌≡◌, ℕ, ◌<◌, ◌≤◌, List, [], ◌∷◌, Option}
use Rattle.atomic_table.specs.Seated.{TableId}
use Rattle.claim_board.specs.declared.entries.Entry.{Entry}
use Rattle.claim_board.specs.Entries.{Each, total, fresh, numbers}
use Rattle.claim_run.specs.declared.shared_board.Hand.{Hand}
use Rattle.claim_run.specs.declared.shared_board.SharedBoard.{SharedBoard}
use Rattle.claim_run.specs.declared.work.WorkDone.{WorkDone}
use Rattle.claim_run.specs.Views.{late}
use Rattle.claim_run.specs.Hands.{HasEnded}
use Rattle.claim_run.specs.Shared.{scout_in}

-- an entry of a chunk, which has ended
pub record IsOver (begin : ℕ → ℕ) (find : ℕ → Option ℕ) (pieces : ℕ) (e : Entry) : Type 0 where
  pub low : e.number < pieces
  pub end : HasEnded begin find e

-- each pair is a piece's number and its value, and the numbers are those of the entries
pub record AreValues {X : Type 0} (value : ℕ → X) (pieces : ℕ) (es : List Entry)
    (given : List (ℕ × X)) : Type 0 where
  pub each : Each (λ (p : ℕ × X). (p.0 < pieces) × (p.1 ≡ value p.0)) given
  pub numbers : (f : ℕ → ℕ) → total (λ (p : ℕ × X). f p.0) given ≡ numbers f es

-- the newest entry is of a number past the last chunk, all others have ended, and their values are
-- given
abbrev pub IsGivenAll : {X : Type 0} → (ℕ → ℕ) → (ℕ → Option ℕ) → (ℕ → X) → ℕ → List Entry
    → List (ℕ × X) → Type 0
IsGivenAll begin find value pieces es given = (n : ℕ) × (rest : List Entry) × (es ≡ fresh n ∷ rest)
    × (pieces ≤ n) × Each (IsOver begin find pieces) rest × AreValues value pieces rest given

pub record IsGift {X : Type 0} (id : TableId) (begin : ℕ → ℕ) (find : ℕ → Option ℕ) (value : ℕ → X)
    (pieces : ℕ) (hand : Hand) (given : List (ℕ × X)) : Type 0 where
  pub table : hand.seat.table_id ≡ id
  pub one : hand.seat.me.0.workers ≡ 1
  pub slots : hand.seat.me.1 ≡ []
  pub all : IsGivenAll begin find value pieces hand.seat.me.0.entries given

-- the hand of one worker of this board which is done, with the values of its pieces
abbrev pub IsDoneBy : {S J X : Type 0} → (S → ℕ → ℕ) → (S → ℕ → Option ℕ) → (J → ℕ → X)
    → SharedBoard S → J → WorkDone X → Type 0
IsDoneBy begins finds value board job done =
    IsGift board.table.shared.table_id (begins (scout_in board)) (finds (scout_in board))
    (value job) board.pieces done.hand done.values.items

-- each chunk's entry has ended, and some number is past the last chunk
pub record AreOver (begin : ℕ → ℕ) (find : ℕ → Option ℕ) (pieces : ℕ)
    (es : List Entry) : Type 0 where
  pub each : Each (λ (e : Entry). e.number < pieces → HasEnded begin find e) es
  pub past : 0 < numbers (late pieces) es
