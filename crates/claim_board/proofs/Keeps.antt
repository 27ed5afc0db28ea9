-- What a change of one hand keeps, and the changes that a board's events are made of.
use Rattle.std.proofs.Common.{◌≡◌, ◌≢◌, ◌⊎◌, inl, inr, ℕ, ◌+◌, ◌<◌, ◌≤◌, List, [], ◌∷◌, ◌++◌, set, sym, refl, ap, ◌∙◌, subst, ⊎_elim, arith, Some, None, Option, min, lt_of_not-le, replicate}
use Rattle.std.specs.Prelude.{slice_get}
use mathlib.Core.Logic.{dite}
use native.Mathlib.Decide.{dec_le}
use Rattle.claim_board.specs.declared.entries.Stage.{Stage}
use Rattle.claim_board.specs.declared.entries.Stage.TheVariants.{Drawn, Looked, Skipped, Worked, Posted}
use Rattle.claim_board.specs.declared.entries.Entry.{Entry}
use Rattle.claim_board.specs.Entries.{total, below, Each, fresh, with_look, ended, numbers, is_post, posts, NotBefore, AtMost, lesser}
use Rattle.claim_board.specs.Rule.{FitsStage, Fits, IsKept}
use Rattle.claim_board.proofs.Sums.{total-set, total_at, total-append, total-replicate, get_set-same, get_set-other, set-swap, each_at, each_set, each_map, each_append, each_replicate, is_same, below_more}

at_most_itself : (o : Option ℕ) (l : ℕ) → o ≡ Some l → AtMost o l
at_most_itself o l e = subst (λ x. AtMost x l) (sym e) (let h : l ≤ l = omega arith in h)

lesser_falls : (o : Option ℕ) (f l : ℕ) → AtMost o l → AtMost (lesser o f) l
lesser_falls None f l h = absurd h
lesser_falls (Some m) f l h = omega arith

lesser_at_most : (o : Option ℕ) (f : ℕ) → AtMost (lesser o f) f
lesser_at_most None f = omega arith
lesser_at_most (Some m) f = omega arith

lesser_is : (o : Option ℕ) (f l : ℕ) → lesser o f ≡ Some l → (o ≡ Some l) ⊎ (f ≡ l)
lesser_is None f l e = inr (cc)
lesser_is (Some m) f l e =
    let same : min m f ≡ l = cc in
    dite (dec_le m f) (λ le. inl (ap Some (let h : m ≡ l = omega arith in h))) (λ not. let lt = lt_of_not-le not in inr (omega arith))

module _ (begin : ℕ → ℕ) (find : ℕ → Option ℕ) (chunks : ℕ) where
  -- an entry fits where least is at most what it was
  later_stage : (least later : Option ℕ) (e : Entry) (stage : Stage) → ((l : ℕ) → AtMost least l → AtMost later l) → FitsStage begin find chunks least e stage → FitsStage begin find chunks later e stage
  later_stage least later e Drawn falls fit = fit
  later_stage least later e Looked falls fit = fit
  later_stage least later e Skipped falls fit = fit
  later_stage least later e (Worked o) falls fit = fit
  later_stage least later e (Posted f) falls fit = (fit.0, fit.1, fit.2, falls f fit.3)

  later_fits : {least later : Option ℕ} {hands changed : List (List Entry)}
      → ((l : ℕ) → AtMost least l → AtMost later l)
      → ((l : ℕ) → total (posts l) hands ≤ total (posts l) changed)
      → (e : Entry) → Fits begin find chunks least hands e → Fits begin find chunks later changed e
  later_fits {least = least} {later = later} falls grown e fit = record {
    stage = later_stage least later e e.stage falls fit.stage;
    look = λ l is. let was = fit.look l is in (falls l was.0, omega (arith, was.1, grown l));
  }

  -- What a change of hand w owes, which had `entries` and now has `changed`, where the next number and the least step become `next_then` and
  -- `least_then`: the numbers that are drawn enter it, least doesn't rise, no post goes away, its entries fit, and a new least is posted.
  pub record Turn (next next_then : ℕ) (least least_then : Option ℕ) (hands : List (List Entry)) (w : ℕ) (entries changed : List Entry) : Type 0 where
    pub drawn : (f : ℕ → ℕ) → numbers f changed + below f next ≡ numbers f entries + below f next_then
    pub falls : (l : ℕ) → AtMost least l → AtMost least_then l
    pub more : (l : ℕ) → posts l entries ≤ posts l changed
    pub newest : ((e : Entry) → Fits begin find chunks least hands e → Fits begin find chunks least_then (set hands w changed) e)
        → ((l : ℕ) → total (posts l) hands ≤ total (posts l) (set hands w changed))
        → Each (Fits begin find chunks least_then (set hands w changed)) changed
    pub posted : (l : ℕ) → least_then ≡ Some l → (least ≡ Some l) ⊎ (0 < posts l changed)

  pub turns : {next next_then : ℕ} {least least_then : Option ℕ} {hands : List (List Entry)} {w : ℕ} {entries changed : List Entry}
      → IsKept begin find chunks next least hands → slice_get hands w ≡ Some entries
      → Turn next next_then least least_then hands w entries changed
      → IsKept begin find chunks next_then least_then (set hands w changed)
  turns {next = next} {next_then = next_then} {least = least} {least_then = least_then} {hands = hands} {w = w} {entries = entries} {changed = changed} kept at turn =
      let grown : (l : ℕ) → total (posts l) hands ≤ total (posts l) (set hands w changed) = λ l. omega (arith, total-set (posts l) hands w entries changed at, turn.more l) in
      let later : (e : Entry) → Fits begin find chunks least hands e → Fits begin find chunks least_then (set hands w changed) e = later_fits turn.falls grown in
      let mine : (l : ℕ) → posts l changed ≤ total (posts l) (set hands w changed) = λ l. total_at (posts l) (set hands w changed) w changed (get_set-same hands w entries changed at) in
      record {
        once = λ f. omega (arith, kept.once f, total-set (numbers f) hands w entries changed at, turn.drawn f);
        fits = each_set (Each (Fits begin find chunks least_then (set hands w changed))) hands w changed (turn.newest later grown)
            (each_map (Each (Fits begin find chunks least hands)) (Each (Fits begin find chunks least_then (set hands w changed))) hands
            (λ es all. each_map (Fits begin find chunks least hands) (Fits begin find chunks least_then (set hands w changed)) es later all) kept.fits);
        posted = λ l is. ⊎_elim
            (λ (was : least ≡ Some l). omega (arith, kept.posted l was, grown l))
            (λ (now : 0 < posts l changed). omega (arith, now, mine l))
            (turn.posted l is);
      }

  -- the newest entry becomes another of the same number
  newest_turn : {next : ℕ} {least : Option ℕ} {hands : List (List Entry)} (w : ℕ) (e : Entry) (es : List Entry) (now : Entry) (least_then : Option ℕ)
      → IsKept begin find chunks next least hands → slice_get hands w ≡ Some (e ∷ es)
      → now.number ≡ e.number
      → ((l : ℕ) → AtMost least l → AtMost least_then l)
      → ((l : ℕ) → is_post l e.stage ≤ is_post l now.stage)
      → (Fits begin find chunks least hands e
      → ((x : Entry) → Fits begin find chunks least hands x → Fits begin find chunks least_then (set hands w (now ∷ es)) x)
      → ((l : ℕ) → total (posts l) hands ≤ total (posts l) (set hands w (now ∷ es)))
      → Fits begin find chunks least_then (set hands w (now ∷ es)) now)
      → ((l : ℕ) → least_then ≡ Some l → (least ≡ Some l) ⊎ (0 < posts l (now ∷ es)))
      → IsKept begin find chunks next least_then (set hands w (now ∷ es))
  newest_turn {least = least} {hands = hands} w e es now least_then kept at same falls more fits posted =
      let old : Each (Fits begin find chunks least hands) (e ∷ es) = each_at (Each (Fits begin find chunks least hands)) hands w (e ∷ es) kept.fits at in
      turns kept at (record {
        drawn = λ f. omega (arith, ap f same);
        falls = falls;
        more = λ l. omega (arith, more l);
        newest = λ later grown. (fits old.0 later grown, each_map (Fits begin find chunks least hands) (Fits begin find chunks least_then (set hands w (now ∷ es))) es later old.1);
        posted = posted;
      })

  -- the next number is drawn
  pub draws : {next : ℕ} {least : Option ℕ} {hands : List (List Entry)} (w : ℕ) {es : List Entry}
      → IsKept begin find chunks next least hands → slice_get hands w ≡ Some es
      → IsKept begin find chunks (next + 1) least (set hands w (fresh next ∷ es))
  draws {next = next} {least = least} {hands = hands} w {es = es} kept at =
      let old : Each (Fits begin find chunks least hands) es = each_at (Each (Fits begin find chunks least hands)) hands w es kept.fits at in
      turns kept at (record {
        drawn = λ f. omega (arith, below_more f next);
        falls = λ l h. h;
        more = λ l. omega arith;
        newest = λ later grown. (record { stage = refl; look = λ l there. absurd (cc) }, each_map (Fits begin find chunks least hands) (Fits begin find chunks least (set hands w (fresh next ∷ es))) es later old);
        posted = λ l there. inl there;
      })

  -- the newest entry goes to another stage that it fits, and no post goes away
  pub ends_newest : {next : ℕ} {least : Option ℕ} {hands : List (List Entry)} (w : ℕ) {e : Entry} {es : List Entry} (stage : Stage)
      → IsKept begin find chunks next least hands → slice_get hands w ≡ Some (e ∷ es)
      → FitsStage begin find chunks least (ended stage e) stage
      → ((l : ℕ) → is_post l e.stage ≤ is_post l stage)
      → IsKept begin find chunks next least (set hands w (ended stage e ∷ es))
  ends_newest {least = least} w {e = e} {es = es} stage kept at fit more =
      newest_turn w e es (ended stage e) least kept at refl (λ l h. h) more
      (λ old later grown. record { stage = fit; look = (later e old).look })
      (λ l there. inl there)

  -- the same, and the next number is drawn at once
  pub ends_and_draws : {next : ℕ} {least : Option ℕ} {hands : List (List Entry)} (w : ℕ) {e : Entry} {es : List Entry} (stage : Stage)
      → IsKept begin find chunks next least hands → slice_get hands w ≡ Some (e ∷ es)
      → FitsStage begin find chunks least (ended stage e) stage
      → ((l : ℕ) → is_post l e.stage ≤ is_post l stage)
      → IsKept begin find chunks (next + 1) least (set hands w (fresh next ∷ ended stage e ∷ es))
  ends_and_draws {next = next} {least = least} {hands = hands} w {e = e} {es = es} stage kept at fit more =
      let old : Each (Fits begin find chunks least hands) (e ∷ es) = each_at (Each (Fits begin find chunks least hands)) hands w (e ∷ es) kept.fits at in
      let changed = fresh next ∷ ended stage e ∷ es in
      turns kept at (record {
        drawn = λ f. omega (arith, below_more f next);
        falls = λ l h. h;
        more = λ l. omega (arith, more l);
        newest = λ later grown. (
          record { stage = refl; look = λ l there. absurd (cc) },
          (
            record { stage = fit; look = (later e old.0).look },
            each_map (Fits begin find chunks least hands) (Fits begin find chunks least (set hands w changed)) es later old.1,
          ),
        );
        posted = λ l there. inl there;
      })

  -- no post stands in an entry that is only drawn, looked or worked
  pub drawn_no_post : (e : Entry) (stage : Stage) → e.stage ≡ Drawn → (l : ℕ) → is_post l e.stage ≤ is_post l stage
  drawn_no_post e stage is l = let z : is_post l e.stage ≡ 0 = ap (is_post l) is in omega arith

  pub looked_no_post : (e : Entry) (stage : Stage) → e.stage ≡ Looked → (l : ℕ) → is_post l e.stage ≤ is_post l stage
  looked_no_post e stage is l = let z : is_post l e.stage ≡ 0 = ap (is_post l) is in omega arith

  pub worked_no_post : (e : Entry) (stage : Stage) (o : Option ℕ) → e.stage ≡ Worked o → (l : ℕ) → is_post l e.stage ≤ is_post l stage
  worked_no_post e stage o is l = let z : is_post l e.stage ≡ 0 = ap (is_post l) is in omega arith

  -- the newest entry looks at the least step
  pub sees : {next : ℕ} {least : Option ℕ} {hands : List (List Entry)} (w : ℕ) {e : Entry} {es : List Entry}
      → IsKept begin find chunks next least hands → slice_get hands w ≡ Some (e ∷ es)
      → e.stage ≡ Drawn → e.number < chunks
      → IsKept begin find chunks next least (set hands w (with_look least e ∷ es))
  sees {least = least} w {e = e} {es = es} kept at is low =
      newest_turn w e es (with_look least e) least kept at refl (λ l h. h) (drawn_no_post e Looked is)
      (λ old later grown. record {
        stage = low;
        look = λ l there. (at_most_itself least l there, (let p = kept.posted l there in let g = grown l in omega arith));
      })
      (λ l there. inl there)

  -- the newest entry posts the first failing step of its chunk, which wasn't posted before
  pub posts_first : {next : ℕ} {least : Option ℕ} {hands : List (List Entry)} (w : ℕ) {e : Entry} {es : List Entry} {f : ℕ}
      → IsKept begin find chunks next least hands → slice_get hands w ≡ Some (e ∷ es)
      → e.number < chunks → find e.number ≡ Some f → NotBefore (begin e.number) e.looked
      → ((l : ℕ) → is_post l e.stage ≤ is_post l (Posted f))
      → IsKept begin find chunks next (lesser least f) (set hands w (ended (Posted f) e ∷ es))
  posts_first {least = least} w {e = e} {es = es} {f = f} kept at low found clear more =
      newest_turn w e es (ended (Posted f) e) (lesser least f) kept at refl (λ l h. lesser_falls least f l h) more
      (λ old later grown. record {
        stage = (low, found, clear, lesser_at_most least f);
        look = (later e old).look;
      })
      (λ l there. ⊎_elim (λ (was : least ≡ Some l). inl was) (λ (mine : f ≡ l). inr (let one = is_same l f mine in omega arith)) (lesser_is least f l there))

  -- the same of an entry whose chunk is worked
  pub posts_newest : {next : ℕ} {least : Option ℕ} {hands : List (List Entry)} (w : ℕ) {e : Entry} {es : List Entry} {f : ℕ}
      → IsKept begin find chunks next least hands → slice_get hands w ≡ Some (e ∷ es)
      → e.stage ≡ Worked (Some f)
      → IsKept begin find chunks next (lesser least f) (set hands w (ended (Posted f) e ∷ es))
  posts_newest {least = least} {hands = hands} w {e = e} {es = es} {f = f} kept at is =
      let old : Each (Fits begin find chunks least hands) (e ∷ es) = each_at (Each (Fits begin find chunks least hands)) hands w (e ∷ es) kept.fits at in
      let fit = subst (FitsStage begin find chunks least e) is old.0.stage in
      posts_first w kept at fit.0 fit.1 fit.2 (worked_no_post e (Posted f) (Some f) is)

  -- the same of an entry that has only looked, where its work and its post are one change
  pub posts_looked : {next : ℕ} {least : Option ℕ} {hands : List (List Entry)} (w : ℕ) {e : Entry} {es : List Entry} {f : ℕ}
      → IsKept begin find chunks next least hands → slice_get hands w ≡ Some (e ∷ es)
      → e.stage ≡ Looked → find e.number ≡ Some f → NotBefore (begin e.number) e.looked
      → IsKept begin find chunks next (lesser least f) (set hands w (ended (Posted f) e ∷ es))
  posts_looked {least = least} {hands = hands} w {e = e} {es = es} {f = f} kept at is found clear =
      let old : Each (Fits begin find chunks least hands) (e ∷ es) = each_at (Each (Fits begin find chunks least hands)) hands w (e ∷ es) kept.fits at in
      let low = subst (FitsStage begin find chunks least e) is old.0.stage in
      posts_first w kept at low found clear (looked_no_post e (Posted f) is)

  -- nobody has drawn a number
  pub start_kept : (n : ℕ) → IsKept begin find chunks 0 None (replicate n [])
  start_kept n = record {
    once = λ f. total-replicate (numbers f) n [] refl;
    fits = each_replicate (Each (Fits begin find chunks None (replicate n []))) n [] tt;
    posted = λ l there. absurd (cc);
  }

  pub one_kept : IsKept begin find chunks 0 None ([] ∷ [])
  one_kept = start_kept 1

  -- a hand more, with no entries
  pub adds_hand : {next : ℕ} {least : Option ℕ} {hands : List (List Entry)}
      → IsKept begin find chunks next least hands → IsKept begin find chunks next least (hands ++ [] ∷ [])
  adds_hand {least = least} {hands = hands} kept =
      let same : (g : List Entry → ℕ) → g [] ≡ 0 → total g (hands ++ [] ∷ []) ≡ total g hands = λ g none. omega (arith, total-append g hands ([] ∷ []), none) in
      let later : (e : Entry) → Fits begin find chunks least hands e → Fits begin find chunks least (hands ++ [] ∷ []) e = later_fits (λ l h. h) (λ l. omega (arith, same (posts l) refl)) in
      record {
        once = λ f. same (numbers f) refl ∙ kept.once f;
        fits = each_append (Each (Fits begin find chunks least (hands ++ [] ∷ []))) hands ([] ∷ [])
            (each_map (Each (Fits begin find chunks least hands)) (Each (Fits begin find chunks least (hands ++ [] ∷ []))) hands
            (λ es all. each_map (Fits begin find chunks least hands) (Fits begin find chunks least (hands ++ [] ∷ [])) es later all) kept.fits)
            (tt, tt);
        posted = λ l there. omega (arith, kept.posted l there, same (posts l) refl);
      }

  joined_total : (g : Entry → ℕ) (hands : List (List Entry)) (j k : ℕ) (es fs : List Entry)
      → slice_get hands j ≡ Some es → slice_get hands k ≡ Some fs → j ≢ k
      → total (total g) (set (set hands j (es ++ fs)) k []) ≡ total (total g) hands
  joined_total g hands j k es fs first second apart =
      let one = total-set (total g) hands j es (es ++ fs) first in
      let two = total-set (total g) (set hands j (es ++ fs)) k fs [] (get_set-other hands j k (es ++ fs) apart ∙ second) in
      omega (arith, one, two, total-append g es fs)

  -- all entries of hand k go to hand j
  pub joins_hands : {next : ℕ} {least : Option ℕ} {hands : List (List Entry)} {j k : ℕ} {es fs : List Entry}
      → IsKept begin find chunks next least hands → slice_get hands j ≡ Some es → slice_get hands k ≡ Some fs → j ≢ k
      → IsKept begin find chunks next least (set (set hands j (es ++ fs)) k [])
  joins_hands {least = least} {hands = hands} {j = j} {k = k} {es = es} {fs = fs} kept first second apart =
      let joined = set (set hands j (es ++ fs)) k [] in
      let same : (g : Entry → ℕ) → total (total g) joined ≡ total (total g) hands = λ g. joined_total g hands j k es fs first second apart in
      let later : (e : Entry) → Fits begin find chunks least hands e → Fits begin find chunks least joined e = later_fits (λ l h. h) (λ l. omega (arith, same (λ (x : Entry). is_post l x.stage))) in
      let each : (xs : List Entry) → Each (Fits begin find chunks least hands) xs → Each (Fits begin find chunks least joined) xs = λ xs all. each_map (Fits begin find chunks least hands) (Fits begin find chunks least joined) xs later all in
      let fits = each_map (Each (Fits begin find chunks least hands)) (Each (Fits begin find chunks least joined)) hands each kept.fits in
      let one = each es (each_at (Each (Fits begin find chunks least hands)) hands j es kept.fits first) in
      let two = each fs (each_at (Each (Fits begin find chunks least hands)) hands k fs kept.fits second) in
      record {
        once = λ f. same (λ (x : Entry). f x.number) ∙ kept.once f;
        fits = each_set (Each (Fits begin find chunks least joined)) (set hands j (es ++ fs)) k [] tt
            (each_set (Each (Fits begin find chunks least joined)) hands j (es ++ fs) (each_append (Fits begin find chunks least joined) es fs one two) fits);
        posted = λ l there. omega (arith, kept.posted l there, same (λ (x : Entry). is_post l x.stage));
      }

  -- the same with the two hands written in the other order
  pub joins_hands_other : {next : ℕ} {least : Option ℕ} {hands : List (List Entry)} {j k : ℕ} {es fs : List Entry}
      → IsKept begin find chunks next least hands → slice_get hands j ≡ Some es → slice_get hands k ≡ Some fs → j ≢ k
      → IsKept begin find chunks next least (set (set hands k []) j (es ++ fs))
  joins_hands_other {next = next} {least = least} {hands = hands} {j = j} {k = k} {es = es} {fs = fs} kept first second apart =
      subst (IsKept begin find chunks next least) (set-swap hands j k (es ++ fs) [] apart) (joins_hands kept first second apart)
