-- What is true once all workers have stopped.
use Rattle.std.proofs.Common.{◌≡◌, ℕ, ◌<◌, ◌≤◌, List, [], ◌∷◌, length, refl, ap, ◌∙◌, subst, arith, true, Some, None, Option, length-set, lt_of_not-le}
use Rattle.std.specs.Prelude.{slice_get, slice_index}
use mathlib.Core.Logic.{dite}
use native.Mathlib.Decide.{dec_le}
use Rattle.claim_board.specs.declared.entries.Stage.{Stage}
use Rattle.claim_board.specs.declared.entries.Stage.TheVariants.{Drawn, Looked, Skipped, Worked, Posted}
use Rattle.claim_board.specs.declared.entries.Entry.{Entry}
use Rattle.claim_board.specs.declared.events.Status.TheVariants.{Stopped}
use Rattle.claim_board.specs.declared.events.Event.{Event}
use Rattle.claim_board.specs.Entries.{total, Each, is_ended, numbers, is, is_post, AtMost}
use Rattle.claim_board.specs.Rule.{FitsStage, Fits}
use Rattle.claim_board.specs.Claims.{IsProblem, IsDone, IsLeastFound, IsAnswered}
use Rattle.claim_board.specs.Board.{Hand, State, Change, entry_lists, found_of, worker_of, change_by, with_change, after_event, after_all}
use Rattle.claim_board.specs.Views.{IsEnded, NewestIsPast, older, IsShaped, FollowsRule}
use Rattle.claim_board.proofs.Sums.{total_at, each_at, each_map, each_both, pick_hand, is_pos, is_same, below-none, below-one}
use Rattle.claim_board.proofs.Tells.{post_pos}
use Rattle.claim_board.proofs.Turns.{entries_get}

-- an event changes neither the chunks nor who is there
pub record IsSameProblem (s t : State) : Type 0 where
  pub begins : t.begins ≡ s.begins
  pub found : t.found ≡ s.found
  pub staffed : length t.hands ≡ length s.hands

change_same : (s : State) (w : ℕ) (o : Option Change) → IsSameProblem s (with_change s w o)
change_same s w None = record { begins = refl; found = refl; staffed = refl }
change_same s w (Some c) = record { begins = refl; found = refl; staffed = length-set s.hands w c.hand }

pub all_same : (events : List Event) (s : State) → IsSameProblem s (after_all events s)
all_same [] s = record { begins = refl; found = refl; staffed = refl }
all_same (event ∷ events) s =
    let one = change_same s (worker_of event) (change_by s event) in
    let more = all_same events (after_event s event) in
    record { begins = more.begins ∙ one.begins; found = more.found ∙ one.found; staffed = more.staffed ∙ one.staffed }

past_entry : (n : ℕ) (es : List Entry) → NewestIsPast n es → (e : Entry) × (n ≤ e.number) × (0 < numbers (is e.number) es)
past_entry n [] h = absurd h
past_entry n (e ∷ es) h = (e, h.1, (let one = is_same e.number e.number refl in omega arith))

first_hand : (hs : List Hand) → 0 < length hs → (h : Hand) × (slice_get hs 0 ≡ Some h)
first_hand [] h = absurd (omega arith)
first_hand (x ∷ xs) h = (x, refl)

at_most_through : (o : Option ℕ) (l f : ℕ) → AtMost o l → l ≤ f → AtMost o f
at_most_through None l f h le = h
at_most_through (Some m) l f h le = omega arith

lists_each : (P : List Entry → Type 0) (hs : List Hand) → Each (λ (h : Hand). P h.entries) hs → Each P (entry_lists hs)
lists_each P [] all = tt
lists_each P (h ∷ hs) all = (all.0, lists_each P hs all.1)

module _ (s : State) (rule : FollowsRule s) (problem : IsProblem s.begins s.found) (staffed : 0 < length s.hands) (done : IsDone s) where
  abbrev Fitting : Entry → Type 0
  Fitting e = Fits (slice_index s.begins) (found_of s.found) (length s.begins) s.least (entry_lists s.hands) e

  abbrev IsOver : Entry → Type 0
  IsOver e = e.number < length s.begins → is_ended e.stage ≡ true

  -- some worker has drawn a number past the last chunk
  all_drawn : length s.begins ≤ s.next
  all_drawn =
      let f = first_hand s.hands staffed in
      let stopped = each_at (λ (h : Hand). h.status ≡ Stopped) s.hands 0 f.0 done f.1 in
      let shape = each_at (IsShaped (length s.begins)) s.hands 0 f.0 rule.shapes f.1 in
      let past = past_entry (length s.begins) f.0.entries (shape.stopped stopped) in
      let k = past.0.number in
      let here = total_at (numbers (is k)) (entry_lists s.hands) 0 f.0.entries (entries_get s.hands 0 f.0 f.1) in
      let count = rule.kept.once (is k) in
      dite (dec_le s.next k) (λ late. absurd (omega (arith, past.2, here, count, below-none k s.next late))) (λ not. let lt = lt_of_not-le not in omega (arith, past.1))

  hand_over : (h : Hand) → IsShaped (length s.begins) h × (h.status ≡ Stopped) → Each IsOver h.entries
  hand_over h both = by h.entries both.0.ended (both.0.stopped both.1)
    where
      by : (es : List Entry) → Each IsEnded (older es) → NewestIsPast (length s.begins) es → Each IsOver es
      by [] ended past = tt
      by (e ∷ es) ended past = ((λ low. absurd (let h = past.1 in omega arith)), each_map IsEnded IsOver es (λ x is low. is) ended)

  all_over : Each (Each IsOver) (entry_lists s.hands)
  all_over = lists_each (Each IsOver) s.hands
      (each_map (λ (h : Hand). IsShaped (length s.begins) h × (h.status ≡ Stopped)) (λ (h : Hand). Each IsOver h.entries) s.hands hand_over
      (each_both (IsShaped (length s.begins)) (λ (h : Hand). h.status ≡ Stopped) s.hands rule.shapes done))

  -- least is at most the step of an entry's chunk
  by_stage : (e : Entry) (f : ℕ) (stage : Stage) → is_ended stage ≡ true → FitsStage (slice_index s.begins) (found_of s.found) (length s.begins) s.least e stage → ((l : ℕ) → e.looked ≡ Some l → AtMost s.least l) → found_of s.found e.number ≡ Some f → AtMost s.least f
  by_stage e f Drawn end fit look found = absurd (cc)
  by_stage e f Looked end fit look found = absurd (cc)
  by_stage e f Skipped end fit look found = let p = fit.1 in at_most_through s.least p.0 f (look p.0 p.1) (let b = problem.not_before e.number f found in let lt = p.2 in omega arith)
  by_stage e f (Worked None) end fit look found = absurd (let none = fit.1 in cc)
  by_stage e f (Worked (Some g)) end fit look found = absurd (cc)
  by_stage e f (Posted g) end fit look found = let there = fit.1 in let same : g ≡ f = cc in subst (AtMost s.least) same fit.3

  found_most : (k f : ℕ) → k < length s.begins → found_of s.found k ≡ Some f → AtMost s.least f
  found_most k f low found =
      let one : 0 < total (numbers (is k)) (entry_lists s.hands) = let h = all_drawn in omega (arith, rule.kept.once (is k), below-one k s.next (omega arith)) in
      let both = each_map (λ (es : List Entry). Each Fitting es × Each IsOver es) (Each (λ (e : Entry). Fitting e × IsOver e)) (entry_lists s.hands) (λ es b. each_both Fitting IsOver es b.0 b.1)
      (each_both (Each Fitting) (Each IsOver) (entry_lists s.hands) rule.kept.fits all_over) in
      let p = pick_hand (λ (e : Entry). is k e.number) (λ (e : Entry). Fitting e × IsOver e) (entry_lists s.hands) both one in
      let e = p.0 in
      let number : e.number ≡ k = is_pos k e.number p.1 in
      by_stage e f e.stage (p.2.1 (omega arith)) p.2.0.stage (λ l there. (p.2.0.look l there).0) (ap (found_of s.found) number ∙ found)

  none_there : s.least ≡ None → (k : ℕ) → k < length s.begins → (x : Option ℕ) → found_of s.found k ≡ x → x ≡ None
  none_there e k low None there = refl
  none_there e k low (Some f) there = absurd (subst (λ o. AtMost o f) e (found_most k f low there))

  least_found : (o : Option ℕ) → s.least ≡ o → IsLeastFound o (found_of s.found) (length s.begins)
  least_found None e = λ k low. none_there e k low (found_of s.found k) refl
  least_found (Some l) e =
      let p = pick_hand (λ (x : Entry). is_post l x.stage) Fitting (entry_lists s.hands) rule.kept.fits (rule.kept.posted l e) in
      let fit = subst (FitsStage (slice_index s.begins) (found_of s.found) (length s.begins) s.least p.0) (post_pos l p.0.stage p.1) p.2.stage in
      ((p.0.number, fit.0, fit.1), λ k f low there. subst (λ o. AtMost o f) e (found_most k f low there))

  pub answered : IsAnswered s
  answered = record { all = all_drawn; ended = all_over; least = least_found s.least refl }
