-- Each step on a word, each split and each join keeps the rule of the table.
use Rattle.std.proofs.Common.{◌≡◌, ◌≢◌, ◌⊎◌, ℕ, zero, suc, ◌+◌, ◌-◌, ◌%◌, ◌^◌, ◌<◌, ◌≤◌, List, [], ◌∷◌, ◌++◌, length, set, sym, refl, ap, ◌∙◌, subst, ⊎_elim, arith, cond, min, length-set, Some, None, Option, eq-eqb, ne_eqb, lt_of_not-le}
use Rattle.std.specs.Prelude.{nat_eq, slice_get, slice_index}
use mathlib.Core.Logic.{dite}
use native.Mathlib.Decide.{ℕ_discrete}
use mathlib.Core.Option.{some, none}
use lib.ListN.{get_elem?}
use Rattle.atomic_table.specs.Table.{State, Me, step, keeps, Allows, Splits, Joins}
use Rattle.atomic_table.proofs.Lists.{at_set}
use Rattle.claim_board.specs.declared.entries.Stage.{Stage}
use Rattle.claim_board.specs.declared.entries.Stage.TheVariants.{Drawn, Looked, Skipped, Worked, Posted}
use Rattle.claim_board.specs.declared.entries.Entry.{Entry}
use Rattle.claim_board.specs.Entries.{total, Each, fresh, with_look, ended, numbers, below, is_post, NotBefore, AtMost, lesser}
use Rattle.claim_board.specs.Rule.{FitsStage, Fits, IsKept}
use Rattle.claim_board.proofs.Sums.{total-append, each_at, each_map, set_same}
use Rattle.claim_board.proofs.Keeps as keeping
use Rattle.claim_run.specs.declared.views.View.{View}
use Rattle.claim_run.specs.Views.{view, hands_of, no_step, least_of, late}
use Rattle.claim_run.specs.Rule.{Views, IsRuled}
use Rattle.claim_run.specs.Plays.{on_newest, AtMostAll, drawn, drawn_after_skip, drawn_after_work, looked, posted}
use Rattle.claim_run.proofs.Carries.{hand_at, hands-set, hands-append, views_set, views_append, staff-set, total-hands, total-le, late_le, late_below}

first_written : (words : List ℕ) (n : ℕ) → 0 < length words → slice_index (set words 0 n) 0 ≡ n
first_written [] n h = absurd (omega arith)
first_written (x ∷ xs) n h = refl

second_written : (words : List ℕ) (n : ℕ) → 1 < length words → slice_index (set words 1 n) 1 ≡ n
second_written [] n h = absurd (omega arith)
second_written (x ∷ []) n h = absurd (omega arith)
second_written (x ∷ y ∷ xs) n h = refl

second_stays : (words : List ℕ) (n : ℕ) → slice_index (set words 0 n) 1 ≡ slice_index words 1
second_stays [] n = refl
second_stays (x ∷ xs) n = refl

first_stays : (words : List ℕ) (n : ℕ) → slice_index (set words 1 n) 0 ≡ slice_index words 0
first_stays [] n = refl
first_stays (x ∷ []) n = refl
first_stays (x ∷ y ∷ xs) n = refl

pub least_some : (n : ℕ) → n ≢ no_step → least_of n ≡ Some n
least_some n some_step = ap (λ b. cond b None (Some n)) (ne_eqb n no_step some_step)

pub least_none : (n : ℕ) → n ≡ no_step → least_of n ≡ None
least_none n e = ap (λ b. cond b None (Some n)) (eq-eqb n no_step e)

-- the minimum of the words is the lesser of what they stand for
least_min : (n f : ℕ) → f < no_step → least_of (min n f) ≡ lesser (least_of n) f
least_min n f small =
    let some_step : least_of (min n f) ≡ Some (min n f) = least_some (min n f) (λ e. absurd (omega arith)) in
    dite (ℕ_discrete n no_step)
    (λ e. some_step ∙ ap Some (let h : min n f ≡ f = omega arith in h) ∙ sym (ap (λ o. lesser o f) (least_none n e)))
    (λ other. some_step ∙ sym (ap (λ o. lesser o f) (least_some n other)))

module _ (begin : ℕ → ℕ) (find : ℕ → Option ℕ) (pieces workers : ℕ) where
  -- the next number is at most the number of chunks and the workers
  pub next_le : (s : State Unit View) → IsRuled begin find pieces workers s → slice_index s.words 0 ≤ pieces + workers
  next_le s rule = omega (
    arith,
    late_below pieces (slice_index s.words 0),
    rule.kept.once (late pieces),
    total-hands (numbers (late pieces)) s.views,
    rule.staffed,
    total-le (λ (v : View). numbers (late pieces) v.entries) (λ (v : View). v.workers) s.views rule.few,
  )

  -- a step of the seat id, by which its view v becomes w
  turned : (s : State Unit View) (id : ℕ) (v w : View) (words : List ℕ) → IsRuled begin find pieces workers s → get_elem? s.views id ≡ some v
      → length words ≡ 2
      → IsKept begin find pieces (slice_index words 0) (least_of (slice_index words 1)) (set (hands_of s.views) id w.entries)
      → w.workers ≡ v.workers → 0 < w.workers → numbers (late pieces) w.entries ≤ w.workers
      → IsRuled begin find pieces workers (record { words = words; homes = s.homes; views = set s.views id w })
  turned s id v w words rule at two kept same staffed few = record {
    words = two;
    kept = subst (IsKept begin find pieces (slice_index words 0) (least_of (slice_index words 1))) (sym (hands-set s.views id w)) kept;
    staffed = omega (arith, rule.staffed, staff-set (λ (u : View). u.workers) s.views id v w at, same);
    few = views_set (λ u. numbers (late pieces) u.entries ≤ u.workers) s.views id w few rule.few;
    spent = views_set (λ u. u.workers ≡ 0 → u.entries ≡ []) s.views id w (λ none_left. absurd (omega (arith, staffed, none_left))) rule.spent;
  }

  -- a number is drawn, where the entries have become es before
  draws_on : (slots id : ℕ) (me : Me Unit View) (es : List Entry) (then : ℕ → Me Unit View → Type 0)
      → pieces + workers + 1 < 2 ^ 64 → numbers (late pieces) me.0.entries + 1 ≤ me.0.workers
      → numbers (late pieces) es ≡ numbers (late pieces) me.0.entries
      → ((next : ℕ) (least : Option ℕ) (hands : List (List Entry)) → IsKept begin find pieces next least hands → slice_get hands id ≡ Some me.0.entries
      → IsKept begin find pieces (next + 1) least (set hands id (fresh next ∷ es)))
      → ((n : ℕ) → then n (view me.0.workers (fresh n ∷ es), me.1))
      → Allows (IsRuled begin find pieces workers) slots id me 0 (λ n. (n + 1) % 2 ^ 64) then
  draws_on slots id me es then room free same drawn_on tells s rule _ at small =
      let next = slice_index s.words 0 in
      let bound = next_le s rule in
      let grown : (next + 1) % 2 ^ 64 ≡ next + 1 = omega arith in
      let words = set s.words 0 ((next + 1) % 2 ^ 64) in
      let now : slice_index words 0 ≡ next + 1 = first_written s.words ((next + 1) % 2 ^ 64) (omega (arith, rule.words)) ∙ grown in
      let stays : slice_index words 1 ≡ slice_index s.words 1 = second_stays s.words ((next + 1) % 2 ^ 64) in
      let hands = set (hands_of s.views) id (fresh next ∷ es) in
      let kept = drawn_on next (least_of (slice_index s.words 1)) (hands_of s.views) rule.kept (hand_at s.views id me.0 at) in (
        view me.0.workers (fresh next ∷ es),
        keeps,
        tt,
        turned s id me.0 (view me.0.workers (fresh next ∷ es)) words rule at
            (length-set s.words 0 ((next + 1) % 2 ^ 64) ∙ rule.words)
            (subst (λ n. IsKept begin find pieces n (least_of (slice_index words 1)) hands) (sym now)
            (subst (λ n. IsKept begin find pieces (next + 1) (least_of n) hands) (sym stays) kept))
            refl (omega arith) (omega (arith, same, late_le pieces next)),
        tells next,
      )

  pub draws : (slots id : ℕ) (me : Me Unit View) → pieces + workers + 1 < 2 ^ 64 → numbers (late pieces) me.0.entries + 1 ≤ me.0.workers
      → Allows (IsRuled begin find pieces workers) slots id me 0 (λ n. (n + 1) % 2 ^ 64) (drawn (step slots 0 1 0 none) me)
  draws slots id me room free = draws_on slots id me me.0.entries (drawn (step slots 0 1 0 none) me) room free refl
      (λ next least hands kept at. keeping.draws begin find pieces id kept at) (λ n. refl)

  looked_low : (least : Option ℕ) (hands : List (List Entry)) (next id : ℕ) (e : Entry) (es : List Entry) → IsKept begin find pieces next least hands → slice_get hands id ≡ Some (e ∷ es) → e.stage ≡ Looked → e.number < pieces
  looked_low least hands next id e es kept at is = subst (FitsStage begin find pieces least e) is (each_at (Each (Fits begin find pieces least hands)) hands id (e ∷ es) kept.fits at).0.stage

  -- the newest entry ends without a post, and then a number is drawn
  ends_and_draws : (slots id : ℕ) (me : Me Unit View) (e : Entry) (es : List Entry) (stage : Stage) (then : ℕ → Me Unit View → Type 0)
      → me.0.entries ≡ e ∷ es → e.stage ≡ Looked
      → ((least : Option ℕ) → e.number < pieces → FitsStage begin find pieces least (ended stage e) stage)
      → pieces + workers + 1 < 2 ^ 64 → numbers (late pieces) me.0.entries + 1 ≤ me.0.workers
      → ((n : ℕ) → then n (view me.0.workers (fresh n ∷ on_newest (ended stage) me.0.entries), me.1))
      → Allows (IsRuled begin find pieces workers) slots id me 0 (λ n. (n + 1) % 2 ^ 64) then
  ends_and_draws slots id me e es stage then is at_look fits room free tells =
      draws_on slots id me (on_newest (ended stage) me.0.entries) then room free
      (subst (λ (k : List Entry). numbers (late pieces) (on_newest (ended stage) k) ≡ numbers (late pieces) k) (sym is) refl)
      (λ next least hands kept. subst (λ (k : List Entry). slice_get hands id ≡ Some k → IsKept begin find pieces (next + 1) least (set hands id (fresh next ∷ on_newest (ended stage) k))) (sym is)
      (λ at. keeping.ends_and_draws begin find pieces id stage kept at (fits least (looked_low least hands next id e es kept at at_look)) (keeping.looked_no_post begin find pieces e stage at_look)))
      tells

  pub skip_draws : (slots id : ℕ) (me : Me Unit View) (e : Entry) (es : List Entry) → me.0.entries ≡ e ∷ es → e.stage ≡ Looked → (l : ℕ) × (e.looked ≡ Some l) × (l < begin e.number)
      → pieces + workers + 1 < 2 ^ 64 → numbers (late pieces) me.0.entries + 1 ≤ me.0.workers
      → Allows (IsRuled begin find pieces workers) slots id me 0 (λ n. (n + 1) % 2 ^ 64) (drawn_after_skip (step slots 0 1 0 none) me)
  skip_draws slots id me e es is at_look before room free =
      ends_and_draws slots id me e es Skipped (drawn_after_skip (step slots 0 1 0 none) me) is at_look (λ least low. (low, before)) room free (λ n. refl)

  pub work_draws : (slots id : ℕ) (me : Me Unit View) (e : Entry) (es : List Entry) → me.0.entries ≡ e ∷ es → e.stage ≡ Looked → find e.number ≡ None → NotBefore (begin e.number) e.looked
      → pieces + workers + 1 < 2 ^ 64 → numbers (late pieces) me.0.entries + 1 ≤ me.0.workers
      → Allows (IsRuled begin find pieces workers) slots id me 0 (λ n. (n + 1) % 2 ^ 64) (drawn_after_work (step slots 0 1 0 none) me)
  work_draws slots id me e es is at_look found_none not_before room free =
      ends_and_draws slots id me e es (Worked None) (drawn_after_work (step slots 0 1 0 none) me) is at_look (λ least low. (low, found_none, not_before)) room free (λ n. refl)

  fits_at : (s : State Unit View) (id : ℕ) (v : View) → IsRuled begin find pieces workers s → get_elem? s.views id ≡ some v
      → Each (Fits begin find pieces (least_of (slice_index s.words 1)) (hands_of s.views)) v.entries
  fits_at s id v rule at = each_at (Each (Fits begin find pieces (least_of (slice_index s.words 1)) (hands_of s.views))) (hands_of s.views) id v.entries rule.kept.fits (hand_at s.views id v at)

  -- the newest entry becomes another of the same number, by a step on word 1
  changes_newest : (id : ℕ) (me : Me Unit View) (e : Entry) (es : List Entry) (become : Entry → Entry) (m : ℕ) → me.0.entries ≡ e ∷ es → (become e).number ≡ e.number → 0 < me.0.workers
      → (s : State Unit View) → IsRuled begin find pieces workers s → get_elem? s.views id ≡ some me.0
      → (slice_get (hands_of s.views) id ≡ Some (e ∷ es) → IsKept begin find pieces (slice_index s.words 0) (least_of m) (set (hands_of s.views) id (become e ∷ es)))
      → IsRuled begin find pieces workers (record { words = set s.words 1 m; homes = s.homes; views = set s.views id (view me.0.workers (on_newest become me.0.entries)) })
  changes_newest id me e es become m is same staffed s rule at kept =
      let words = set s.words 1 m in
      let now : slice_index words 1 ≡ m = second_written s.words m (omega (arith, rule.words)) in
      let stays : slice_index words 0 ≡ slice_index s.words 0 = first_stays s.words m in
      let hands = set (hands_of s.views) id (on_newest become me.0.entries) in
      let there : slice_get (hands_of s.views) id ≡ Some (e ∷ es) = hand_at s.views id me.0 at ∙ ap Some is in
      let put = subst (λ (k : List Entry). IsKept begin find pieces (slice_index s.words 0) (least_of m) (set (hands_of s.views) id (on_newest become k))) (sym is) (kept there) in
      let few : numbers (late pieces) (on_newest become me.0.entries) ≡ numbers (late pieces) me.0.entries =
      subst (λ (k : List Entry). numbers (late pieces) (on_newest become k) ≡ numbers (late pieces) k) (sym is) (omega (arith, ap (late pieces) same)) in
      turned s id me.0 (view me.0.workers (on_newest become me.0.entries)) words rule at
      (length-set s.words 1 m ∙ rule.words)
      (subst (λ n. IsKept begin find pieces n (least_of (slice_index words 1)) hands) (sym stays)
      (subst (λ n. IsKept begin find pieces (slice_index s.words 0) (least_of n) hands) (sym now) put))
      refl staffed (omega (arith, few, rule.few id me.0 at))

  pub looks : (slots id : ℕ) (me : Me Unit View) (e : Entry) (es : List Entry) → me.0.entries ≡ e ∷ es → e.stage ≡ Drawn → e.number < pieces → 0 < me.0.workers
      → Allows (IsRuled begin find pieces workers) slots id me 1 (λ n. n) (looked (step slots 1 0 0 none) me)
  looks slots id me e es is at_draw low staffed s rule _ at small =
      let n = slice_index s.words 1 in
      let least = least_of n in
      let all = fits_at s id me.0 rule at in (
        view me.0.workers (on_newest (with_look least) me.0.entries),
        keeps,
        tt,
        changes_newest id me e es (with_look least) n is refl staffed s rule at (λ there. keeping.sees begin find pieces id rule.kept there at_draw low),
        (
          refl,
          each_map (Fits begin find pieces least (hands_of s.views)) (λ (x : Entry). ((l : ℕ) → x.looked ≡ Some l → AtMost least l) × ((f : ℕ) → x.stage ≡ Posted f → AtMost least f)) me.0.entries
              (λ x fit. ((λ l there. (fit.look l there).0), λ f there. (subst (FitsStage begin find pieces least x) there fit.stage).3)) all,
        ),
      )

  pub posts_step : (slots id : ℕ) (me : Me Unit View) (e : Entry) (es : List Entry) (f : ℕ) → me.0.entries ≡ e ∷ es → e.stage ≡ Looked → find e.number ≡ Some f → NotBefore (begin e.number) e.looked → f < no_step → 0 < me.0.workers
      → Allows (IsRuled begin find pieces workers) slots id me 1 (λ n. min n f) (posted (step slots 1 f 0 none) me)
  posts_step slots id me e es f is at_look found not_before small_step staffed s rule _ at small =
      let n = slice_index s.words 1 in (
        view me.0.workers (on_newest (ended (Posted f)) me.0.entries),
        keeps,
        tt,
        changes_newest id me e es (ended (Posted f)) (min n f) is refl staffed s rule at
            (λ there. subst (λ o. IsKept begin find pieces (slice_index s.words 0) o (set (hands_of s.views) id (ended (Posted f) e ∷ es))) (sym (least_min n f small_step))
            (keeping.posts_looked begin find pieces id rule.kept there at_look found not_before)),
        refl,
      )

  pub splits : (id : ℕ) (v : View) → 2 ≤ v.workers → numbers (late pieces) v.entries + 1 ≤ v.workers → Splits (IsRuled begin find pieces workers) id v (view (v.workers - 1) v.entries) (view 1 [])
  splits id v two free s rule at =
      let left = view (v.workers - 1) v.entries in
      let right = view 1 [] in
      let vs = set s.views id left in
      let same : hands_of (vs ++ right ∷ []) ≡ hands_of s.views ++ [] ∷ [] = hands-append vs (right ∷ []) ∙ ap (λ l. l ++ [] ∷ []) (hands-set s.views id left ∙ set_same (hands_of s.views) id v.entries (hand_at s.views id v at)) in
      record {
        words = rule.words;
        kept = subst (IsKept begin find pieces (slice_index s.words 0) (least_of (slice_index s.words 1))) (sym same) (keeping.adds_hand begin find pieces rule.kept);
        staffed = omega (arith, rule.staffed, staff-set (λ (u : View). u.workers) s.views id v left at, total-append (λ (u : View). u.workers) vs (right ∷ []));
        few = views_append (λ u. numbers (late pieces) u.entries ≤ u.workers) vs right (omega arith) (views_set (λ u. numbers (late pieces) u.entries ≤ u.workers) s.views id left (omega arith) rule.few);
        spent = views_append (λ u. u.workers ≡ 0 → u.entries ≡ []) vs right (λ none_left. absurd (omega arith)) (views_set (λ u. u.workers ≡ 0 → u.entries ≡ []) s.views id left (λ none_left. absurd (omega arith)) rule.spent);
      }

  pub joins : (id : ℕ) (v : View) (other : ℕ) (w : View) → Joins (IsRuled begin find pieces workers) id v other w (view (v.workers + w.workers) (v.entries ++ w.entries)) (view 0 [])
  joins id v other w s rule at apart there =
      let both = view (v.workers + w.workers) (v.entries ++ w.entries) in
      let gone = view 0 [] in
      let vs = set s.views id both in
      let was : get_elem? s.views other ≡ some w = ⊎_elim (λ x. absurd (apart x.0)) (λ x. x.1) (at_set s.views id other both w there) in
      let mine = rule.few id v at in
      let theirs = rule.few other w was in
      let same : hands_of (set vs other gone) ≡ set (set (hands_of s.views) id (v.entries ++ w.entries)) other [] = hands-set vs other gone ∙ ap (λ l. set l other []) (hands-set s.views id both) in
      record {
        words = rule.words;
        kept = subst (IsKept begin find pieces (slice_index s.words 0) (least_of (slice_index s.words 1))) (sym same)
            (keeping.joins_hands begin find pieces rule.kept (hand_at s.views id v at) (hand_at s.views other w was) (λ e. apart (sym e)));
        staffed = omega (arith, rule.staffed, staff-set (λ (u : View). u.workers) s.views id v both at, staff-set (λ (u : View). u.workers) vs other w gone there);
        few = views_set (λ u. numbers (late pieces) u.entries ≤ u.workers) vs other gone (omega arith) (views_set (λ u. numbers (late pieces) u.entries ≤ u.workers) s.views id both (omega (arith, mine, theirs, total-append (λ (e : Entry). late pieces e.number) v.entries w.entries)) rule.few);
        spent = views_set (λ u. u.workers ≡ 0 → u.entries ≡ []) vs other gone (λ _. refl) (views_set (λ u. u.workers ≡ 0 → u.entries ≡ []) s.views id both (λ none_left. ap (λ (l : List Entry). l ++ w.entries) (rule.spent id v at (omega arith)) ∙ rule.spent other w was (omega arith)) rule.spent);
      }
