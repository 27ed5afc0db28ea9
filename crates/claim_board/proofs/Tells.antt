-- What is true of a board that kept its rule.
use Rattle.std.proofs.Common.{◌≡◌, ℕ, ◌<◌, List, refl, ap, ◌∙◌, subst, arith, Some, None, Option, lt_of_not-le}
use mathlib.Core.Logic.{dite}
use native.Mathlib.Decide.{dec_le}
use Rattle.claim_board.specs.declared.entries.Stage.{Stage}
use Rattle.claim_board.specs.declared.entries.Stage.TheVariants.{Drawn, Looked, Skipped, Worked, Posted}
use Rattle.claim_board.specs.declared.entries.Entry.{Entry}
use Rattle.claim_board.specs.Entries.{total, Each, is, is_post, posts, AtMost}
use Rattle.claim_board.specs.Rule.{FitsStage, Fits, IsKept}
use Rattle.claim_board.specs.Claims.{IsFair, IsLeastPosted, IsRightlySkipped, SkipsAreRight}
use Rattle.claim_board.proofs.Sums.{each_map, pick_hand, is_pos, below_is}

-- an entry that counts as a post of f has posted f
pub post_pos : (f : ℕ) (stage : Stage) → 0 < is_post f stage → stage ≡ Posted f
post_pos f Drawn h = absurd (omega arith)
post_pos f Looked h = absurd (omega arith)
post_pos f Skipped h = absurd (omega arith)
post_pos f (Worked o) h = absurd (omega arith)
post_pos f (Posted g) h = ap Posted (is_pos f g h)

module _ (begin : ℕ → ℕ) (find : ℕ → Option ℕ) (chunks : ℕ) {next : ℕ} {least : Option ℕ} {hands : List (List Entry)} (kept : IsKept begin find chunks next least hands) where
  pub fair : IsFair next hands
  fair k = kept.once (is k) ∙ below_is k next

  -- least is at most each step that was posted
  pub posted_most : (f : ℕ) → 0 < total (posts f) hands → AtMost least f
  posted_most f some =
      let p = pick_hand (λ (e : Entry). is_post f e.stage) (Fits begin find chunks least hands) hands kept.fits some in
      (subst (FitsStage begin find chunks least p.0) (post_pos f p.0.stage p.1) p.2.stage).3

  pub least_posted : IsLeastPosted least hands
  least_posted = by least refl
    where
      by : (o : Option ℕ) → least ≡ o → IsLeastPosted o hands
      by None e = λ f. dite (dec_le 1 (total (posts f) hands)) (λ some. absurd (subst (λ o. AtMost o f) e (posted_most f some))) (λ not. let lt = lt_of_not-le not in omega arith)
      by (Some l) e = (kept.posted l e, λ f some. subst (λ o. AtMost o f) e (posted_most f some))

  pub skips_right : SkipsAreRight begin hands
  skips_right = each_map (Each (Fits begin find chunks least hands)) (Each (IsRightlySkipped begin hands)) hands (λ es all. each_map (Fits begin find chunks least hands) (IsRightlySkipped begin hands) es (λ e fit. record {
    skipped = λ is. let p = (subst (FitsStage begin find chunks least e) is fit.stage).1 in (p.0, p.1, p.2, (fit.look p.0 p.1).1);
    worked = λ o is. (subst (FitsStage begin find chunks least e) is fit.stage).2;
    posted = λ f is. (subst (FitsStage begin find chunks least e) is fit.stage).2;
  }) all) kept.fits
