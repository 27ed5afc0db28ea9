-- How a worker's entries stand for a hand, and how many there can be.
use Rattle.std.proofs.Common.{◌≡◌, ℕ, zero, suc, ◌+◌, ◌-◌, ◌<◌, ◌≤◌, List, [], ◌∷◌, ◌++◌, length, set, sym, refl, ap, ◌∙◌, arith, cond, true, false, Some, Option, reverse, map, get_or, lt_of_not-le}
use Rattle.std.specs.Prelude.{nat_lt, slice_get, slice_index}
use Rattle.std.proofs.lemmas.Bool.Decides.{nat_tests}
use Rattle.std.proofs.lemmas.List.{length-reverse, reverse-reverse, reverse-append, map-set}
use mathlib.Core.Logic.{dite}
use native.Mathlib.Decide.{dec_le}
use Rattle.claim_board.specs.declared.entries.Stage.{Stage}
use Rattle.claim_board.specs.declared.entries.Stage.TheVariants.{Drawn, Looked, Skipped, Worked, Posted}
use Rattle.claim_board.specs.declared.entries.Entry.{Entry}
use Rattle.claim_board.specs.declared.events.Event.{Event}
use Rattle.claim_board.specs.declared.events.Outcome.{Outcome}
use Rattle.claim_board.specs.declared.workers.Worker.{Worker}
use Rattle.claim_board.specs.Entries.{Each, total, numbers, below, is_ended}
use Rattle.claim_board.specs.Rule.{FitsStage, Fits}
use Rattle.claim_board.specs.Board.{Hand, State, entries_at, entry_lists, found_of, newest_of, put_newest, change_of, change_if_enabled, change_for, change_by, worker_of, with_change, after_event}
use Rattle.claim_board.specs.Views.{IsEnded, older, IsShaped, FollowsRule, hand_of, state_of}
use Rattle.claim_board.proofs.Sums.{total_at}
use Rattle.claim_board.proofs.Turns.{entries_get}

reverse_one : {A : Type 0} (x : A) (xs : List A) → reverse (x ∷ xs) ≡ reverse xs ++ x ∷ []
reverse_one x xs = reverse-append (x ∷ []) xs

newest_before : (zs : List Entry) (x : Entry) → 0 < length zs → newest_of (zs ++ x ∷ []) ≡ newest_of zs
newest_before [] x h = absurd (omega arith)
newest_before (z ∷ zs) x h = refl

last_newest : (xs : List Entry) (k : ℕ) → k + 1 ≡ length xs → slice_get xs k ≡ newest_of (reverse xs)
last_newest [] k e = absurd (omega arith)
last_newest (x ∷ []) zero e = refl
last_newest (x ∷ []) (suc k) e = absurd (omega arith)
last_newest (x ∷ y ∷ xs) zero e = absurd (omega arith)
last_newest (x ∷ y ∷ xs) (suc k) e = last_newest (y ∷ xs) k (omega arith) ∙ sym (newest_before (reverse (y ∷ xs)) x (omega (arith, length-reverse (y ∷ xs)))) ∙ ap newest_of (sym (reverse_one x (y ∷ xs)))

-- the last of the entries that the code keeps is the newest
pub newest_is : (xs : List Entry) → slice_get xs (length xs - 1) ≡ newest_of (reverse xs)
newest_is [] = refl
newest_is (x ∷ xs) = last_newest (x ∷ xs) (length (x ∷ xs) - 1) (omega arith)

put_before : (e x : Entry) (zs : List Entry) → 0 < length zs → put_newest false e zs ++ x ∷ [] ≡ put_newest false e (zs ++ x ∷ [])
put_before e x [] h = absurd (omega arith)
put_before e x (z ∷ zs) h = refl

pub last_put : (e : Entry) (xs : List Entry) (k : ℕ) → k + 1 ≡ length xs → reverse (set xs k e) ≡ put_newest false e (reverse xs)
last_put e [] k h = absurd (omega arith)
last_put e (x ∷ []) zero h = refl
last_put e (x ∷ []) (suc k) h = absurd (omega arith)
last_put e (x ∷ y ∷ xs) zero h = absurd (omega arith)
last_put e (x ∷ y ∷ xs) (suc k) h =
    reverse_one x (set (y ∷ xs) k e)
    ∙ ap (λ l. l ++ x ∷ []) (last_put e (y ∷ xs) k (omega arith))
    ∙ put_before e x (reverse (y ∷ xs)) (omega (arith, length-reverse (y ∷ xs)))
    ∙ ap (put_newest false e) (sym (reverse_one x (y ∷ xs)))

pub hand_at : (ws : List Worker) (k : ℕ) (d : Worker) → k < length ws → slice_get (map hand_of ws) k ≡ Some (hand_of (get_or ws k d))
hand_at [] k d h = absurd (omega arith)
hand_at (w ∷ ws) zero d h = refl
hand_at (w ∷ ws) (suc k) d h = hand_at ws k d (omega arith)

-- 1 for a number that isn't one of the first n, so that such numbers can be counted
unfoldable past : ℕ → ℕ → ℕ
past n x = cond (nat_lt x n) 0 1

past_le : (n x : ℕ) → past n x ≤ 1
unfolding past
past_le n x = grind (arith, nat_tests)

past_low : (n x : ℕ) → x < n → past n x ≡ 0
unfolding past
past_low n x h = grind (arith, nat_tests)

past_one : (n x : ℕ) → n ≤ x → past n x ≡ 1
unfolding past
past_one n x h = grind (arith, nat_tests)

past_below : (n m : ℕ) → m ≤ n + below (past n) m
past_below n zero = omega arith
past_below n (suc m) =
    let before = past_below n m in
    dite (dec_le n m) (λ late. omega (arith, past_one n m late)) (λ not. let lt = lt_of_not-le not in omega arith)

ones : (es : List Entry) → numbers (λ n. 1) es ≡ length es
ones [] = refl
ones (e ∷ es) = omega (arith, ones es)

below_ones : (n : ℕ) → below (λ m. 1) n ≡ n
below_ones zero = refl
below_ones (suc n) = omega (arith, below_ones n)

module _ (s : State) (rule : FollowsRule s) where
  abbrev Fitting : Entry → Type 0
  Fitting e = Fits (slice_index s.begins) (found_of s.found) (length s.begins) s.least (entry_lists s.hands) e

  low_stage : (e : Entry) (stage : Stage) → is_ended stage ≡ true → FitsStage (slice_index s.begins) (found_of s.found) (length s.begins) s.least e stage → e.number < length s.begins
  low_stage e Drawn is fit = absurd (cc)
  low_stage e Looked is fit = fit
  low_stage e Skipped is fit = fit.0
  low_stage e (Worked o) is fit = fit.0
  low_stage e (Posted f) is fit = fit.0

  none_past : (es : List Entry) → Each IsEnded es → Each Fitting es → numbers (past (length s.begins)) es ≡ 0
  none_past [] ended fits = refl
  none_past (e ∷ es) ended fits = omega (arith, past_low (length s.begins) e.number (low_stage e e.stage ended.0 fits.0.stage), none_past es ended.1 fits.1)

  one_past : (es : List Entry) → Each IsEnded (older es) → Each Fitting es → numbers (past (length s.begins)) es ≤ 1
  one_past [] ended fits = omega arith
  one_past (e ∷ es) ended fits = omega (arith, past_le (length s.begins) e.number, none_past es ended fits.1)

  all_past : (hs : List Hand) → Each (IsShaped (length s.begins)) hs → Each (Each Fitting) (entry_lists hs) → total (numbers (past (length s.begins))) (entry_lists hs) ≤ length hs
  all_past [] shapes fits = omega arith
  all_past (h ∷ hs) shapes fits = omega (arith, one_past h.entries shapes.0.ended fits.0, all_past hs shapes.1 fits.1)

  -- next is at most the number of chunks and of workers
  pub next_le : s.next ≤ length s.begins + length s.hands
  next_le = omega (arith, past_below (length s.begins) s.next, rule.kept.once (past (length s.begins)), all_past s.hands rule.shapes rule.kept.fits)

  -- a hand has at most as many entries as numbers were drawn
  pub hand_le : (k : ℕ) (h : Hand) → slice_get s.hands k ≡ Some h → length h.entries ≤ s.next
  hand_le k h at = omega (arith, ones h.entries, total_at (numbers (λ n. 1)) (entry_lists s.hands) k h.entries (entries_get s.hands k h at), rule.kept.once (λ n. 1), below_ones s.next)

-- the change by an event is what the outcome says of its worker
pub tells : {begins : List ℕ} {found : List (Option ℕ)} {next : ℕ} {least : Option ℕ} (ws : List Worker) (now : State) (event : Event) (k : ℕ) (worker : Worker) (o : Option Outcome)
    → state_of begins found next least ws ≡ now → k ≡ worker_of event → k < length ws → worker ≡ get_or ws k worker
    → change_if_enabled (reverse worker.entries.items) o ≡ change_for (state_of begins found next least ws) event (Some (hand_of worker))
    → change_by now event ≡ change_if_enabled (reverse worker.entries.items) o
tells {begins = begins} {found = found} {next = next} {least = least} ws now event k worker o view number low there told =
    let s = state_of begins found next least ws in
    ap (λ (t : State). change_by t event) (sym view)
    ∙ ap (change_for s event) (ap (slice_get (map hand_of ws)) (sym number) ∙ hand_at ws k worker low ∙ ap (λ (w : Worker). Some (hand_of w)) (sym there))
    ∙ sym told

-- the state after an event that is enabled
pub becomes_after : {begins : List ℕ} {found : List (Option ℕ)} {next : ℕ} {least : Option ℕ} (ws : List Worker) (now : State) (event : Event) (k : ℕ) (worker after : Worker) (o : Outcome)
    → state_of begins found next least ws ≡ now → k ≡ worker_of event
    → change_by now event ≡ Some (change_of (reverse worker.entries.items) o) → hand_of after ≡ (change_of (reverse worker.entries.items) o).hand
    → state_of begins found o.next o.least (set ws k after) ≡ after_event now event
becomes_after {begins = begins} {found = found} ws now event k worker after o view number is hand =
    let hands : map hand_of (set ws k after) ≡ set (map hand_of ws) (worker_of event) (change_of (reverse worker.entries.items) o).hand = map-set hand_of ws k after ∙ (λ i. set (map hand_of ws) (number i) (hand i)) in
    (λ i. record { begins = begins; found = found; next = o.next; least = o.least; hands = hands i })
    ∙ ap (λ (s : State). with_change s (worker_of event) (Some (change_of (reverse worker.entries.items) o))) view
    ∙ ap (with_change now (worker_of event)) (sym is)

-- the entries that the code keeps of a worker are those of its hand, the oldest first
pub entries_some : (ws : List Worker) (k : ℕ) (d : Worker) → k < length ws → (get_or ws k d).entries.items ≡ reverse (entries_at (map hand_of ws) k)
entries_some [] k d low = absurd (omega arith)
entries_some (x ∷ xs) zero d low = sym (reverse-reverse x.entries.items)
entries_some (x ∷ xs) (suc k) d low = entries_some xs k d (omega arith)

pub entries_none : (ws : List Worker) (k : ℕ) → length ws ≤ k → [] ≡ reverse (entries_at (map hand_of ws) k)
entries_none [] k past = refl
entries_none (x ∷ xs) zero past = absurd (omega arith)
entries_none (x ∷ xs) (suc k) past = entries_none xs k (omega arith)
