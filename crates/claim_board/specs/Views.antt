-- Bookkeeping: how the code's fields stand for a state, and the rule that every event keeps.
use Rattle.std.specs.Prelude.{◌≡◌, ℕ, ◌+◌, ◌<◌, ◌≤◌, ◌^◌, List, [], ◌∷◌, length, map, reverse, true}
use Rattle.std.specs.Prelude.{Option, slice_index, slice_index_or, vec_capacity}
use Rattle.claim_board.specs.declared.entries.Stage.TheVariants.{Drawn}
use Rattle.claim_board.specs.declared.entries.Entry.{Entry}
use Rattle.claim_board.specs.declared.events.Status.TheVariants.{Stopped}
use Rattle.claim_board.specs.declared.workers.Worker.{Worker}
use Rattle.claim_board.specs.Entries.{Each, is_ended}
use Rattle.claim_board.specs.Rule.{IsKept}
use Rattle.claim_board.specs.Board.{Hand, State, board, entry_lists, found_of}

-- a worker goes on from such an entry
abbrev pub IsEnded : Entry → Type 0
IsEnded e = is_ended e.stage ≡ true

-- the newest entry is drawn, past the last of n chunks
abbrev pub NewestIsPast : ℕ → List Entry → Type 0
NewestIsPast n [] = ⊥
NewestIsPast n (e ∷ es) = (e.stage ≡ Drawn) × (n ≤ e.number)

-- all but the newest
abbrev pub older : List Entry → List Entry
older [] = []
older (e ∷ es) = es

-- only the newest entry isn't ended, and a worker stops past the last chunk
pub record IsShaped (n : ℕ) (h : Hand) : Type 0 where
  pub ended : Each IsEnded (older h.entries)
  pub stopped : h.status ≡ Stopped → NewestIsPast n h.entries

-- the rule of a state: that of its entries, and the shape of each hand
pub record FollowsRule (s : State) : Type 0 where
  pub kept : IsKept (slice_index s.begins) (found_of s.found) (length s.begins) s.next s.least
      (entry_lists s.hands)
  pub shapes : Each (IsShaped (length s.begins)) s.hands

-- the code keeps the oldest entry first
abbrev pub hand_of : Worker → Hand
hand_of w = record { entries = reverse w.entries.items; status = w.status }

abbrev pub state_of : List ℕ → List (Option ℕ) → ℕ → Option ℕ → List Worker → State
state_of begins found next least workers = board begins found next least (map hand_of workers)

-- the rule holds, and each worker has room for every entry that it can make
pub record IsSound (begins : List ℕ) (found : List (Option ℕ)) (next : ℕ) (least : Option ℕ)
    (workers : List Worker) : Type 0 where
  pub rule : FollowsRule (state_of begins found next least workers)
  pub few : length begins + length workers + 1 < 2 ^ 32
  pub room : (k : ℕ) (d : Worker) → k < length workers
      → length begins + length workers + 1 ≤ vec_capacity (slice_index_or workers k d).entries
