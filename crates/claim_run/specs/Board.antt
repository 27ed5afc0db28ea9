-- What callers of a board know of it and of its hands.
use Rattle.std.specs.Prelude.{◌≡◌, ℕ, ◌≤◌, List, Option}
use Rattle.claim_board.specs.declared.entries.Entry.{Entry}
use Rattle.claim_run.specs.declared.shared_board.Hand.{Hand}
use Rattle.claim_run.specs.declared.board.Board.{Board}
use Rattle.claim_run.specs.declared.views.Pending.TheVariants.{Nothing}
use Rattle.claim_run.specs.Hands.{entries_with}
use Rattle.claim_run.specs.Shared.{scout_in, IsOf, MayDraw}

-- what the workers of a hand did, the newest entry first, and how many workers it stands for
abbrev pub entries_of : Hand → List Entry
entries_of hand = entries_with hand.pending hand.seat.me.0.entries

abbrev pub workers_of : Hand → ℕ
workers_of hand = hand.seat.me.0.workers

-- no entry of a hand is still to be added to its view: so it is at first, and after a turn that
-- found no chunk
abbrev pub IsAtRest : Hand → Type 0
IsAtRest hand = hand.pending ≡ Nothing

-- how many chunks and how many workers a board has, and its scout
abbrev pub pieces_of : {S : Type 0} → Board S → ℕ
pieces_of board = board.inner.pieces

abbrev pub staff_of : {S : Type 0} → Board S → ℕ
staff_of board = board.inner.table.shared.key.workers

abbrev pub scout_of : {S : Type 0} → Board S → S
scout_of board = scout_in board.inner

-- a hand of this board, of which the scout knows each chunk
pub record IsHandOf {S : Type 0} (begins : S → ℕ → ℕ) (finds : S → ℕ → Option ℕ) (pieces : S → ℕ)
    (board : Board S) (hand : Hand) : Type 0 where
  pub own : IsOf begins finds board.inner hand
  pub within : pieces_of board ≤ pieces (scout_of board)

-- a turn may be taken with the hand: fewer of its workers have found no chunk than it stands for
abbrev pub MayTurn : {S : Type 0} → Board S → Hand → Type 0
MayTurn board hand = MayDraw board.inner hand
