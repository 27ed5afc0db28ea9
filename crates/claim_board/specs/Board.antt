-- The board and its events: which event of a worker is enabled, and what it changes. A worker draws
-- a number, looks at the least failing step that is posted, skips the chunk of its number or works
-- it, posts the failing step that it found, and stops at a number past the last chunk.
use Rattle.std.specs.Prelude.{ℕ, zero, suc, ◌+◌, List, [], ◌∷◌, length, slice_get, slice_index, set}
use Rattle.std.specs.Prelude.{map, Bool, true, false, cond, nat_lt, Option, Some, None, replicate}
use Rattle.claim_board.specs.declared.entries.Stage.{Stage}
use Rattle.claim_board.specs.declared.entries.Stage.TheVariants.{Drawn, Looked, Skipped, Worked}
use Rattle.claim_board.specs.declared.entries.Stage.TheVariants.{Posted}
use Rattle.claim_board.specs.declared.entries.Entry.{Entry}
use Rattle.claim_board.specs.declared.events.Status.{Status}
use Rattle.claim_board.specs.declared.events.Status.TheVariants.{Runs, Stopped, Refused}
use Rattle.claim_board.specs.declared.events.Event.{Event}
use Rattle.claim_board.specs.declared.events.Event.TheVariants.{Draw, Look, Skip, Work, Post, Stop}
use Rattle.claim_board.specs.declared.events.Event.TheVariants.{Refuse}
use Rattle.claim_board.specs.declared.events.Outcome.{Outcome}
use Rattle.claim_board.specs.Entries.{fresh, with_look, ended, is_ended, lesser}

-- a worker's entries, the newest first, and whether it runs
pub record Hand : Type 0 where
  pub entries : List Entry
  pub status : Status

-- the first step of each chunk and the first failing step in it; the next number; the least step
-- posted; and the workers
pub record State : Type 0 where
  pub begins : List ℕ
  pub found : List (Option ℕ)
  pub next : ℕ
  pub least : Option ℕ
  pub hands : List Hand

abbrev pub board : List ℕ → List (Option ℕ) → ℕ → Option ℕ → List Hand → State
board begins found next least hands =
    record { begins = begins; found = found; next = next; least = least; hands = hands }

abbrev pub entry_lists : List Hand → List (List Entry)
entry_lists hands = map (λ (h : Hand). h.entries) hands

-- a worker's entries, the newest first; none of a worker that isn't there
abbrev pub entries_at : List Hand → ℕ → List Entry
entries_at [] k = []
entries_at (h ∷ hs) zero = h.entries
entries_at (h ∷ hs) (suc k) = entries_at hs k

abbrev pub flat : Option (Option ℕ) → Option ℕ
flat None = None
flat (Some o) = o

-- the first failing step of a chunk, if it has one
abbrev pub found_of : List (Option ℕ) → ℕ → Option ℕ
found_of found k = flat (slice_get found k)

-- a step was seen that is before this one
abbrev pub is_before : ℕ → Option ℕ → Bool
is_before begin None = false
is_before begin (Some l) = nat_lt l begin

-- the outcome of a draw, and of any other event: what the newest entry becomes
abbrev pub draws_next : ℕ → Option ℕ → Outcome
draws_next next least =
    record { draws = true; newest = fresh next; status = Runs; next = next + 1; least = least }

abbrev pub becomes : Entry → Status → ℕ → Option ℕ → Outcome
becomes e status next least =
    record { draws = false; newest = e; status = status; next = next; least = least }

-- What each event makes of the newest entry, by its stage, where it is enabled.
abbrev pub after_look : State → Entry → Stage → Option Outcome
after_look s e Drawn =
    cond (nat_lt e.number (length s.begins))
    (Some (becomes (with_look s.least e) Runs s.next s.least)) None
after_look s e Looked = None
after_look s e Skipped = None
after_look s e (Worked o) = None
after_look s e (Posted f) = None

abbrev pub after_skip : State → Entry → Stage → Option Outcome
after_skip s e Drawn = None
after_skip s e Looked =
    cond (is_before (slice_index s.begins e.number) e.looked)
    (Some (becomes (ended Skipped e) Runs s.next s.least)) None
after_skip s e Skipped = None
after_skip s e (Worked o) = None
after_skip s e (Posted f) = None

abbrev pub after_work : State → Entry → Stage → Option Outcome
after_work s e Drawn = None
after_work s e Looked =
    cond (is_before (slice_index s.begins e.number) e.looked) None
    (Some (becomes (ended (Worked (found_of s.found e.number)) e) Runs s.next s.least))
after_work s e Skipped = None
after_work s e (Worked o) = None
after_work s e (Posted f) = None

abbrev pub after_post : State → Entry → Stage → Option Outcome
after_post s e Drawn = None
after_post s e Looked = None
after_post s e Skipped = None
after_post s e (Worked None) = None
after_post s e (Worked (Some f)) =
    Some (becomes (ended (Posted f) e) Runs s.next (lesser s.least f))
after_post s e (Posted f) = None

abbrev pub after_stop : State → Entry → Stage → Option Outcome
after_stop s e Drawn =
    cond (nat_lt e.number (length s.begins)) None (Some (becomes e Stopped s.next s.least))
after_stop s e Looked = None
after_stop s e Skipped = None
after_stop s e (Worked o) = None
after_stop s e (Posted f) = None

-- What an event makes of a worker that runs, by its newest entry, where it is enabled. A worker
-- that is refused keeps its entries; where it has none, none takes the place of a newest one
-- (`put_newest` below).
abbrev pub outcome_of : State → Event → Option Entry → Option Outcome
outcome_of s (Draw w) None = Some (draws_next s.next s.least)
outcome_of s (Draw w) (Some e) = cond (is_ended e.stage) (Some (draws_next s.next s.least)) None
outcome_of s (Look w) None = None
outcome_of s (Look w) (Some e) = after_look s e e.stage
outcome_of s (Skip w) None = None
outcome_of s (Skip w) (Some e) = after_skip s e e.stage
outcome_of s (Work w) None = None
outcome_of s (Work w) (Some e) = after_work s e e.stage
outcome_of s (Post w) None = None
outcome_of s (Post w) (Some e) = after_post s e e.stage
outcome_of s (Stop w) None = None
outcome_of s (Stop w) (Some e) = after_stop s e e.stage
outcome_of s (Refuse w) None = Some (becomes (fresh s.next) Refused s.next s.least)
outcome_of s (Refuse w) (Some e) = Some (becomes e Refused s.next s.least)

-- only a worker that runs acts
abbrev pub outcome_if_runs : State → Event → Status → Option Entry → Option Outcome
outcome_if_runs s event Runs newest = outcome_of s event newest
outcome_if_runs s event Stopped newest = None
outcome_if_runs s event Refused newest = None

abbrev pub newest_of : List Entry → Option Entry
newest_of [] = None
newest_of (e ∷ es) = Some e

-- a new entry, or one in place of the newest
abbrev pub put_newest : Bool → Entry → List Entry → List Entry
put_newest true e es = e ∷ es
put_newest false e [] = []
put_newest false e (x ∷ es) = e ∷ es

-- what an event leaves of its worker, of the next number and of the least step
pub record Change : Type 0 where
  pub hand : Hand
  pub next : ℕ
  pub least : Option ℕ

abbrev pub change_of : List Entry → Outcome → Change
change_of es o =
    record {
      hand = record { entries = put_newest o.draws o.newest es; status = o.status };
      next = o.next;
      least = o.least;
    }

abbrev pub change_if_enabled : List Entry → Option Outcome → Option Change
change_if_enabled es None = None
change_if_enabled es (Some o) = Some (change_of es o)

-- an event of a worker that isn't there isn't enabled
abbrev pub change_for : State → Event → Option Hand → Option Change
change_for s event None = None
change_for s event (Some h) =
    change_if_enabled h.entries (outcome_if_runs s event h.status (newest_of h.entries))

abbrev pub worker_of : Event → ℕ
worker_of (Draw w) = w
worker_of (Look w) = w
worker_of (Skip w) = w
worker_of (Work w) = w
worker_of (Post w) = w
worker_of (Stop w) = w
worker_of (Refuse w) = w

-- the change that an event makes, none where it isn't enabled
abbrev pub change_by : State → Event → Option Change
change_by s event = change_for s event (slice_get s.hands (worker_of event))

abbrev pub with_change : State → ℕ → Option Change → State
with_change s w None = s
with_change s w (Some c) =
    record {
      begins = s.begins;
      found = s.found;
      next = c.next;
      least = c.least;
      hands = set s.hands w c.hand;
    }

abbrev pub after_event : State → Event → State
after_event s event = with_change s (worker_of event) (change_by s event)

-- the state after a whole list of events
abbrev pub after_all : List Event → State → State
after_all [] s = s
after_all (event ∷ events) s = after_all events (after_event s event)

abbrev pub idle : Hand
idle = record { entries = []; status = Runs }

-- nobody has drawn a number
abbrev pub first_state : ℕ → List ℕ → List (Option ℕ) → State
first_state workers begins found = board begins found 0 None (replicate workers idle)
