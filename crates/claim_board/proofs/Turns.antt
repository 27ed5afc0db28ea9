-- Every event keeps the rule.
use Rattle.std.proofs.Common.{◌≡◌, ℕ, zero, suc, ◌<◌, ◌≤◌, List, [], ◌∷◌, length, set, sym, refl, ap, subst, arith, cond, Bool, true, false, Some, None, Option, replicate}
use Rattle.std.specs.Prelude.{slice_get, slice_index, nat_lt}
use Rattle.std.proofs.lemmas.Bool.Decides.{nat_tests}
use Rattle.std.proofs.lemmas.List.{map-set}
use Rattle.claim_board.specs.declared.entries.Stage.{Stage}
use Rattle.claim_board.specs.declared.entries.Stage.TheVariants.{Drawn, Looked, Skipped, Worked, Posted}
use Rattle.claim_board.specs.declared.entries.Entry.{Entry}
use Rattle.claim_board.specs.declared.events.Status.{Status}
use Rattle.claim_board.specs.declared.events.Status.TheVariants.{Runs, Stopped, Refused}
use Rattle.claim_board.specs.declared.events.Outcome.{Outcome}
use Rattle.claim_board.specs.declared.events.Event.{Event}
use Rattle.claim_board.specs.declared.events.Event.TheVariants.{Draw, Look, Skip, Work, Post, Stop, Refuse}
use Rattle.claim_board.specs.Entries.{Each, is_ended, with_look, ended, NotBefore}
use Rattle.claim_board.specs.Rule.{FitsStage, Fits, IsKept}
use Rattle.claim_board.specs.Board.{Hand, State, Change, entry_lists, found_of, is_before, draws_next, becomes, after_look, after_skip, after_work, after_post, after_stop, outcome_of, outcome_if_runs, newest_of, change_of, change_if_enabled, change_for, worker_of, with_change, after_event, after_all, idle, first_state}
use Rattle.claim_board.specs.Views.{IsEnded, NewestIsPast, IsShaped, FollowsRule}
use Rattle.claim_board.proofs.Sums.{each_at, each_set, each_replicate, set_same}
use Rattle.claim_board.proofs.Keeps.{draws, ends_newest, sees, posts_newest, start_kept, looked_no_post}

abbrev pub OnSome : {A : Type 0} → (A → Type 0) → Option A → Type 0
OnSome P None = Unit {0}
OnSome P (Some c) = P c

on_cond : (P : Change → Type 0) (es : List Entry) (b : Bool) (o : Outcome) → (b ≡ true → P (change_of es o)) → OnSome P (change_if_enabled es (cond b (Some o) None))
on_cond P es true o h = h refl
on_cond P es false o h = tt

on_cond_not : (P : Change → Type 0) (es : List Entry) (b : Bool) (o : Outcome) → (b ≡ false → P (change_of es o)) → OnSome P (change_if_enabled es (cond b None (Some o)))
on_cond_not P es true o h = tt
on_cond_not P es false o h = h refl

pub entries_get : (hs : List Hand) (w : ℕ) (h : Hand) → slice_get hs w ≡ Some h → slice_get (entry_lists hs) w ≡ Some h.entries
entries_get [] w h at = absurd (cc)
entries_get (x ∷ xs) zero h at = let is : x ≡ h = cc in ap (λ (y : Hand). Some y.entries) is
entries_get (x ∷ xs) (suc w) h at = entries_get xs w h at

idle_lists : (n : ℕ) → entry_lists (replicate n idle) ≡ replicate n []
idle_lists zero = refl
idle_lists (suc n) = ap (λ l. [] ∷ l) (idle_lists n)

before_some : (begin : ℕ) (o : Option ℕ) → is_before begin o ≡ true → (l : ℕ) × (o ≡ Some l) × (l < begin)
before_some begin None e = absurd (cc)
before_some begin (Some l) e = (l, refl, (let h : l < begin = grind (arith, nat_tests) in h))

not_before : (begin : ℕ) (o : Option ℕ) → is_before begin o ≡ false → NotBefore begin o
not_before begin None e l is = absurd (cc)
not_before begin (Some m) e l is = let same : m ≡ l = cc in let h : begin ≤ m = grind (arith, nat_tests) in omega arith

runs_shaped : (n : ℕ) (e : Entry) (es : List Entry) → Each IsEnded es → IsShaped n (record { entries = e ∷ es; status = Runs })
runs_shaped n e es all = record { ended = all; stopped = λ no. absurd (cc) }

module _ (s : State) (w : ℕ) (rule : FollowsRule s) where
  abbrev Keeps : ℕ → Option ℕ → List (List Entry) → Type 0
  Keeps next least lists = IsKept (slice_index s.begins) (found_of s.found) (length s.begins) next least lists

  -- what a change of worker w owes
  abbrev Owes : Change → Type 0
  Owes c = Keeps c.next c.least (set (entry_lists s.hands) w c.hand.entries) × IsShaped (length s.begins) c.hand

  changed_rule : (c : Change) → Owes c → FollowsRule (with_change s w (Some c))
  changed_rule c owed = record {
    kept = subst (Keeps c.next c.least) (sym (map-set (λ (h : Hand). h.entries) s.hands w c.hand)) owed.0;
    shapes = each_set (IsShaped (length s.begins)) s.hands w c.hand owed.1 rule.shapes;
  }

  abbrev IsAt : List Entry → Type 0
  IsAt es = slice_get s.hands w ≡ Some (record { entries = es; status = Runs })

  lists_at : (es : List Entry) → IsAt es → slice_get (entry_lists s.hands) w ≡ Some es
  lists_at es at = entries_get s.hands w (record { entries = es; status = Runs }) at

  shaped : (es : List Entry) → IsAt es → IsShaped (length s.begins) (record { entries = es; status = Runs })
  shaped es at = each_at (IsShaped (length s.begins)) s.hands w (record { entries = es; status = Runs }) rule.shapes at

  -- the entry as it stands
  fits_at : (e : Entry) (es : List Entry) → IsAt (e ∷ es) → FitsStage (slice_index s.begins) (found_of s.found) (length s.begins) s.least e e.stage
  fits_at e es at = (each_at (Each (Fits (slice_index s.begins) (found_of s.found) (length s.begins) s.least (entry_lists s.hands))) (entry_lists s.hands) w (e ∷ es) rule.kept.fits (lists_at (e ∷ es) at)).0.stage

  looks_owes : (e : Entry) (es : List Entry) → IsAt (e ∷ es) → (stage : Stage) → e.stage ≡ stage → OnSome Owes (change_if_enabled (e ∷ es) (after_look s e stage))
  looks_owes e es at Drawn is = on_cond Owes (e ∷ es) (nat_lt e.number (length s.begins)) (becomes (with_look s.least e) Runs s.next s.least) (λ low. (
    sees (slice_index s.begins) (found_of s.found) (length s.begins) w rule.kept (lists_at (e ∷ es) at) is (let h : e.number < length s.begins = grind (arith, nat_tests) in h),
    runs_shaped (length s.begins) (with_look s.least e) es (shaped (e ∷ es) at).ended,
  ))
  looks_owes e es at Looked is = tt
  looks_owes e es at Skipped is = tt
  looks_owes e es at (Worked o) is = tt
  looks_owes e es at (Posted f) is = tt

  skips_owes : (e : Entry) (es : List Entry) → IsAt (e ∷ es) → (stage : Stage) → e.stage ≡ stage → OnSome Owes (change_if_enabled (e ∷ es) (after_skip s e stage))
  skips_owes e es at Looked is = on_cond Owes (e ∷ es) (is_before (slice_index s.begins e.number) e.looked) (becomes (ended Skipped e) Runs s.next s.least) (λ before.
      let low = subst (FitsStage (slice_index s.begins) (found_of s.found) (length s.begins) s.least e) is (fits_at e es at) in (
        ends_newest (slice_index s.begins) (found_of s.found) (length s.begins) w Skipped rule.kept (lists_at (e ∷ es) at)
            (low, before_some (slice_index s.begins e.number) e.looked before) (looked_no_post (slice_index s.begins) (found_of s.found) (length s.begins) e Skipped is),
        runs_shaped (length s.begins) (ended Skipped e) es (shaped (e ∷ es) at).ended,
      ))
  skips_owes e es at Drawn is = tt
  skips_owes e es at Skipped is = tt
  skips_owes e es at (Worked o) is = tt
  skips_owes e es at (Posted f) is = tt

  works_owes : (e : Entry) (es : List Entry) → IsAt (e ∷ es) → (stage : Stage) → e.stage ≡ stage → OnSome Owes (change_if_enabled (e ∷ es) (after_work s e stage))
  works_owes e es at Looked is =
      let worked = Worked (found_of s.found e.number) in
      on_cond_not Owes (e ∷ es) (is_before (slice_index s.begins e.number) e.looked) (becomes (ended worked e) Runs s.next s.least) (λ not.
      let low = subst (FitsStage (slice_index s.begins) (found_of s.found) (length s.begins) s.least e) is (fits_at e es at) in (
        ends_newest (slice_index s.begins) (found_of s.found) (length s.begins) w worked rule.kept (lists_at (e ∷ es) at)
            (low, refl, not_before (slice_index s.begins e.number) e.looked not) (looked_no_post (slice_index s.begins) (found_of s.found) (length s.begins) e worked is),
        runs_shaped (length s.begins) (ended worked e) es (shaped (e ∷ es) at).ended,
      ))
  works_owes e es at Drawn is = tt
  works_owes e es at Skipped is = tt
  works_owes e es at (Worked o) is = tt
  works_owes e es at (Posted f) is = tt

  posts_owes : (e : Entry) (es : List Entry) → IsAt (e ∷ es) → (stage : Stage) → e.stage ≡ stage → OnSome Owes (change_if_enabled (e ∷ es) (after_post s e stage))
  posts_owes e es at (Worked (Some f)) is = (
    posts_newest (slice_index s.begins) (found_of s.found) (length s.begins) w rule.kept (lists_at (e ∷ es) at) is,
    runs_shaped (length s.begins) (ended (Posted f) e) es (shaped (e ∷ es) at).ended,
  )
  posts_owes e es at (Worked None) is = tt
  posts_owes e es at Drawn is = tt
  posts_owes e es at Looked is = tt
  posts_owes e es at Skipped is = tt
  posts_owes e es at (Posted f) is = tt

  -- nothing changes but the status
  stays : (es : List Entry) (status : Status) → IsAt es → (status ≡ Stopped → NewestIsPast (length s.begins) es) → Owes (record { hand = record { entries = es; status = status }; next = s.next; least = s.least })
  stays es status at past =
      (subst (Keeps s.next s.least) (sym (set_same (entry_lists s.hands) w es (lists_at es at))) rule.kept, record { ended = (shaped es at).ended; stopped = past })

  stops_owes : (e : Entry) (es : List Entry) → IsAt (e ∷ es) → (stage : Stage) → e.stage ≡ stage → OnSome Owes (change_if_enabled (e ∷ es) (after_stop s e stage))
  stops_owes e es at Drawn is = on_cond_not Owes (e ∷ es) (nat_lt e.number (length s.begins)) (becomes e Stopped s.next s.least) (λ not.
      stays (e ∷ es) Stopped at (λ _. (is, (let h : length s.begins ≤ e.number = grind (arith, nat_tests) in h))))
  stops_owes e es at Looked is = tt
  stops_owes e es at Skipped is = tt
  stops_owes e es at (Worked o) is = tt
  stops_owes e es at (Posted f) is = tt

  draws_owes : (es : List Entry) → IsAt es → Each IsEnded es → Owes (change_of es (draws_next s.next s.least))
  draws_owes es at all =
      (draws (slice_index s.begins) (found_of s.found) (length s.begins) w rule.kept (lists_at es at), record { ended = all; stopped = λ no. absurd (cc) })

  outcome_owes : (event : Event) (es : List Entry) → IsAt es → OnSome Owes (change_if_enabled es (outcome_of s event (newest_of es)))
  outcome_owes (Draw v) [] at = draws_owes [] at tt
  outcome_owes (Draw v) (e ∷ es) at = on_cond Owes (e ∷ es) (is_ended e.stage) (draws_next s.next s.least) (λ can. draws_owes (e ∷ es) at (can, (shaped (e ∷ es) at).ended))
  outcome_owes (Refuse v) [] at = stays [] Refused at (λ no. absurd (cc))
  outcome_owes (Refuse v) (e ∷ es) at = stays (e ∷ es) Refused at (λ no. absurd (cc))
  outcome_owes (Look v) [] at = tt
  outcome_owes (Look v) (e ∷ es) at = looks_owes e es at e.stage refl
  outcome_owes (Skip v) [] at = tt
  outcome_owes (Skip v) (e ∷ es) at = skips_owes e es at e.stage refl
  outcome_owes (Work v) [] at = tt
  outcome_owes (Work v) (e ∷ es) at = works_owes e es at e.stage refl
  outcome_owes (Post v) [] at = tt
  outcome_owes (Post v) (e ∷ es) at = posts_owes e es at e.stage refl
  outcome_owes (Stop v) [] at = tt
  outcome_owes (Stop v) (e ∷ es) at = stops_owes e es at e.stage refl

  keeps_if : (o : Option Change) → OnSome Owes o → FollowsRule (with_change s w o)
  keeps_if None owed = rule
  keeps_if (Some c) owed = changed_rule c owed

  outcome_keeps : (event : Event) (status : Status) (es : List Entry) → slice_get s.hands w ≡ Some (record { entries = es; status = status })
      → FollowsRule (with_change s w (change_if_enabled es (outcome_if_runs s event status (newest_of es))))
  outcome_keeps event Runs es at = keeps_if (change_if_enabled es (outcome_of s event (newest_of es))) (outcome_owes event es at)
  outcome_keeps event Stopped es at = rule
  outcome_keeps event Refused es at = rule

  change_keeps : (event : Event) (o : Option Hand) → slice_get s.hands w ≡ o → FollowsRule (with_change s w (change_for s event o))
  change_keeps event None at = rule
  change_keeps event (Some h) at = outcome_keeps event h.status h.entries at

pub event_keeps : (s : State) (event : Event) → FollowsRule s → FollowsRule (after_event s event)
event_keeps s event rule = change_keeps s (worker_of event) rule event (slice_get s.hands (worker_of event)) refl

pub all_keep : (events : List Event) (s : State) → FollowsRule s → FollowsRule (after_all events s)
all_keep [] s rule = rule
all_keep (event ∷ events) s rule = all_keep events (after_event s event) (event_keeps s event rule)

pub first_rule : (workers : ℕ) (begins : List ℕ) (found : List (Option ℕ)) → FollowsRule (first_state workers begins found)
first_rule workers begins found = record {
  kept = subst (IsKept (slice_index begins) (found_of found) (length begins) 0 None) (sym (idle_lists workers)) (start_kept (slice_index begins) (found_of found) (length begins) workers);
  shapes = each_replicate (IsShaped (length begins)) workers idle (record { ended = tt; stopped = λ no. absurd (cc) });
}
