-- What is true of a board at every moment, and once all workers have stopped.
use Rattle.std.specs.Prelude.{◌≡◌, ℕ, ◌<◌, ◌≤◌, List, length, slice_index, cond, nat_lt, true}
use Rattle.std.specs.Prelude.{Option, Some, None}
use Rattle.claim_board.specs.declared.entries.Stage.TheVariants.{Skipped, Worked, Posted}
use Rattle.claim_board.specs.declared.entries.Entry.{Entry}
use Rattle.claim_board.specs.declared.events.Status.TheVariants.{Stopped}
use Rattle.claim_board.specs.Entries.{total, Each, numbers, is, is_ended, posts, NotBefore}
use Rattle.claim_board.specs.Board.{Hand, State, entry_lists, found_of}

-- each number below next is in one hand, once, and no other number is in any
abbrev pub IsFair : ℕ → List (List Entry) → Type 0
IsFair next hands = (k : ℕ) → total (numbers (is k)) hands ≡ cond (nat_lt k next) 1 0

-- the least of all posted steps, none where none is posted
abbrev pub IsLeastPosted : Option ℕ → List (List Entry) → Type 0
IsLeastPosted None hands = (f : ℕ) → total (posts f) hands ≡ 0
IsLeastPosted (Some l) hands = (0 < total (posts l) hands)
    × ((f : ℕ) → 0 < total (posts f) hands → l ≤ f)

-- A chunk is skipped only where its look gave a step before it, which is posted in some hand; a
-- chunk whose look gave such a step is never worked nor posted.
pub record IsRightlySkipped (begin : ℕ → ℕ) (hands : List (List Entry)) (e : Entry) : Type 0 where
  pub skipped : e.stage ≡ Skipped
      → (l : ℕ) × (e.looked ≡ Some l) × (l < begin e.number) × (0 < total (posts l) hands)
  pub worked : (o : Option ℕ) → e.stage ≡ Worked o → NotBefore (begin e.number) e.looked
  pub posted : (f : ℕ) → e.stage ≡ Posted f → NotBefore (begin e.number) e.looked

abbrev pub SkipsAreRight : (ℕ → ℕ) → List (List Entry) → Type 0
SkipsAreRight begin hands = Each (Each (IsRightlySkipped begin hands)) hands

-- the least step that any of the first n chunks has, none where none has one
abbrev pub IsLeastFound : Option ℕ → (ℕ → Option ℕ) → ℕ → Type 0
IsLeastFound None find n = (k : ℕ) → k < n → find k ≡ None
IsLeastFound (Some l) find n = ((k : ℕ) × (k < n) × (find k ≡ Some l))
    × ((k f : ℕ) → k < n → find k ≡ Some f → l ≤ f)

-- the claims above, for a state
abbrev pub NumbersAreFair : State → Type 0
NumbersAreFair s = IsFair s.next (entry_lists s.hands)

abbrev pub LeastIsPosted : State → Type 0
LeastIsPosted s = IsLeastPosted s.least (entry_lists s.hands)

abbrev pub ChunksAreSkippedRightly : State → Type 0
ChunksAreSkippedRightly s = SkipsAreRight (slice_index s.begins) (entry_lists s.hands)

-- a failing step is named for each chunk or none, and it isn't before its chunk
pub record IsProblem (begins : List ℕ) (found : List (Option ℕ)) : Type 0 where
  pub same_length : length found ≡ length begins
  pub not_before : (k f : ℕ) → found_of found k ≡ Some f → slice_index begins k ≤ f

-- all workers have stopped, and none is refused
abbrev pub IsDone : State → Type 0
IsDone s = Each (λ (h : Hand). h.status ≡ Stopped) s.hands

-- Every chunk was drawn, and is skipped, posted, or worked with no failing step; and the least step
-- is the least that any chunk has.
pub record IsAnswered (s : State) : Type 0 where
  pub all : length s.begins ≤ s.next
  pub ended : Each (Each (λ e. e.number < length s.begins → is_ended e.stage ≡ true))
      (entry_lists s.hands)
  pub least : IsLeastFound s.least (found_of s.found) (length s.begins)
