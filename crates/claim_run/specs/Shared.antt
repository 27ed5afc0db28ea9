-- Bookkeeping: what calls on the board that threads share know of it and of its hands.
use Rattle.std.specs.Prelude.{◌≡◌, ℕ, ◌+◌, ◌<◌, ◌≤◌, ◌^◌, List, [], ◌∷◌, Option, Some, None}
use Rattle.claim_board.specs.declared.entries.Entry.{Entry}
use Rattle.claim_board.specs.Entries.{fresh, with_look}
use Rattle.claim_run.specs.declared.shared_board.Hand.{Hand}
use Rattle.claim_run.specs.declared.shared_board.SharedBoard.{SharedBoard}
use Rattle.claim_run.specs.declared.views.Pending.TheVariants.{Nothing}
use Rattle.claim_run.specs.Views.{view, least_of}
use Rattle.claim_run.specs.Hands.{MayEnd, IsFree}

-- the scout that the board was made with
abbrev pub scout_in : {S : Type 0} → SharedBoard S → S
scout_in board = board.table.shared.key.scout.value

-- it is this scout, and it knows each of the board's chunks
pub record Knows {S : Type 0} (pieces : S → ℕ) (board : SharedBoard S) (scout : S) : Type 0 where
  pub told : scout_in board ≡ scout
  pub within : board.pieces ≤ pieces scout

-- a hand of the board
pub record IsOf {S : Type 0} (begins : S → ℕ → ℕ) (finds : S → ℕ → Option ℕ)
    (board : SharedBoard S) (hand : Hand) : Type 0 where
  pub table : hand.seat.table_id ≡ board.table.shared.table_id
  pub slots : hand.seat.me.1 ≡ []
  pub settles : MayEnd (begins (scout_in board))
      (finds (scout_in board)) hand.pending hand.seat.me.0.entries

-- a hand of the board that has done nothing and stands for n workers
pub record IsNew {S : Type 0} (board : SharedBoard S) (n : ℕ) (hand : Hand) : Type 0 where
  pub table : hand.seat.table_id ≡ board.table.shared.table_id
  pub view : hand.seat.me ≡ (view n [], [])
  pub rests : hand.pending ≡ Nothing

-- a number may be drawn
abbrev pub MayDraw : {S : Type 0} → SharedBoard S → Hand → Type 0
MayDraw board hand = IsFree board.table.shared.key.pieces hand.seat.me.0

abbrev pub tail : {A : Type 0} → List A → List A
tail [] = []
tail (x ∷ xs) = xs

-- the newest entry is just drawn, and is of chunk k
pub record HasDrawn {S : Type 0} (board : SharedBoard S) (k : ℕ) (hand : Hand) : Type 0 where
  pub newest : hand.seat.me.0.entries ≡ fresh k ∷ tail hand.seat.me.0.entries
  pub low : k < board.table.shared.key.pieces
  pub staffed : 0 < hand.seat.me.0.workers

-- the newest entry is of number k, and has found this in word 1
pub record HasLooked (word k : ℕ) (hand : Hand) : Type 0 where
  pub newest : hand.seat.me.0.entries
      ≡ with_look (least_of word) (fresh k) ∷ tail hand.seat.me.0.entries
  pub staffed : 0 < hand.seat.me.0.workers

-- what a step is read from word 1 as
pub record IsWord (n : ℕ) (r : Option ℕ) : Type 0 where
  pub small : n < 2 ^ 32 → r ≡ Some n
  pub large : 2 ^ 32 ≤ n → r ≡ None
