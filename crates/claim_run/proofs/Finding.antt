-- The least step that is found, by what is true of the one hand that is left on a closed board.
use Rattle.std.proofs.Common.{◌≡◌, ℕ, ◌+◌, ◌<◌, ◌≤◌, List, [], ◌∷◌, ap, sym, ◌∙◌, refl, subst, arith, Option, Some, None}
use Rattle.claim_board.specs.declared.entries.Stage.TheVariants.{Posted}
use Rattle.claim_board.specs.declared.entries.Entry.{Entry}
use Rattle.claim_board.specs.Entries.{Each, total, is, is_post, AtMost}
use Rattle.claim_board.specs.Rule.{FitsStage, Fits, IsKept}
use Rattle.claim_board.specs.Claims.{IsLeastFound}
use Rattle.claim_board.proofs.Sums.{each_both, pick, is_pos}
use Rattle.claim_board.proofs.Tells.{post_pos}
use Rattle.claim_run.specs.Hands.{HasEnded, passed, clear, told}
use Rattle.claim_run.specs.Runs.{AreOver}
use Rattle.claim_run.proofs.Gathering.{each_number}

at_most_more : (o : Option ℕ) (l f : ℕ) → AtMost o l → l ≤ f → AtMost o f
at_most_more None l f h le = absurd h
at_most_more (Some m) l f h le = omega arith

module _ (begin : ℕ → ℕ) (find : ℕ → Option ℕ) (pieces next : ℕ) (least : Option ℕ) (es : List Entry)
    (kept : IsKept begin find pieces next least (es ∷ []))
    (over : AreOver begin find pieces es)
    (within : (k step : ℕ) → k < pieces → find k ≡ Some step → begin k ≤ step) where
  abbrev Told : Entry → Type 0
  Told e = Fits begin find pieces least (es ∷ []) e × (e.number < pieces → HasEnded begin find e)

  all_told : Each Told es
  all_told = each_both (Fits begin find pieces least (es ∷ [])) (λ (e : Entry). e.number < pieces → HasEnded begin find e) es kept.fits.0 over.each

  by_end : (e : Entry) (f : ℕ) → HasEnded begin find e → Fits begin find pieces least (es ∷ []) e → begin e.number ≤ f → find e.number ≡ Some f → AtMost least f
  by_end e f (passed l skipped looked low) fit late_enough there = at_most_more least l f (fit.look l looked).0 (omega arith)
  by_end e f (clear worked none early) fit late_enough there = absurd (cc)
  by_end e f (told g posted found early) fit late_enough there = let same : g ≡ f = cc in subst (AtMost least) same (subst (FitsStage begin find pieces least e) posted fit.stage).3

  found_most : (k f : ℕ) → k < pieces → find k ≡ Some f → AtMost least f
  found_most k f low there =
      let p = pick (λ (e : Entry). is k e.number) Told es all_told (each_number pieces next es kept.once over.past k low) in
      let number : p.0.number ≡ k = is_pos k p.0.number p.1 in
      let found : find p.0.number ≡ Some f = ap find number ∙ there in
      by_end p.0 f (p.2.1 (omega arith)) p.2.0 (within p.0.number f (omega arith) found) found

  posted_found : (l : ℕ) → least ≡ Some l → (k : ℕ) × (k < pieces) × (find k ≡ Some l)
  posted_found l is_l =
      let p = pick (λ (e : Entry). is_post l e.stage) Told es all_told (let some = kept.posted l is_l in omega arith) in
      let fit = subst (FitsStage begin find pieces least p.0) (post_pos l p.0.stage p.1) p.2.0.stage in
      (p.0.number, fit.0, fit.1)

  none_found : least ≡ None → (k : ℕ) → k < pieces → (x : Option ℕ) → find k ≡ x → x ≡ None
  none_found none_yet k low None e = refl
  none_found none_yet k low (Some f) e = absurd (subst (λ o. AtMost o f) none_yet (found_most k f low e))

  by_least : (o : Option ℕ) → least ≡ o → IsLeastFound o find pieces
  by_least None e = λ k low. none_found e k low (find k) refl
  by_least (Some l) e = (posted_found l e, λ k f low there. subst (λ o. AtMost o f) e (found_most k f low there))

  pub least_found : IsLeastFound least find pieces
  least_found = by_least least refl
