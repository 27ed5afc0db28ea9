-- What the words of a closed table say of the one hand that is left.
use Rattle.std.proofs.Common.{◌≡◌, ◌≢◌, ℕ, zero, suc, ◌+◌, ◌^◌, ◌<◌, ◌≤◌, List, [], ◌∷◌, sym, refl, ap, ◌∙◌, subst, arith, Option, Some, None}
use Rattle.std.specs.Prelude.{slice_index}
use mathlib.Core.Logic.{dite}
use native.Mathlib.Decide.{ℕ_discrete}
use mathlib.Core.Option.{some, some-injective, some-ne-none}
use lib.ListN.{get_elem?}
use Rattle.atomic_table.specs.Table.{State}
use Rattle.claim_board.specs.declared.entries.Stage.TheVariants.{Posted}
use Rattle.claim_board.specs.declared.entries.Entry.{Entry}
use Rattle.claim_board.specs.Entries.{total, Each, numbers, is_post, posts}
use Rattle.claim_board.specs.Rule.{FitsStage, Fits, IsKept}
use Rattle.claim_board.proofs.Sums.{each_at, each_map, pick}
use Rattle.claim_board.proofs.Tells.{post_pos}
use Rattle.claim_run.specs.declared.views.View.{View}
use Rattle.claim_run.specs.Views.{hands_of, no_step, least_of}
use Rattle.claim_run.specs.Rule.{IsRuled}
use Rattle.claim_run.specs.Shared.{IsWord}
use Rattle.claim_run.proofs.Carries.{hand_at, total-hands, total-only, terms_le}
use Rattle.claim_run.proofs.Moves.{least_some, least_none}

pub first_is : (words : List ℕ) (n : ℕ) → get_elem? words 0 ≡ some n → slice_index words 0 ≡ n
first_is [] n at = absurd (some-ne-none n (sym at))
first_is (x ∷ xs) n at = some-injective x n at

pub second_is : (words : List ℕ) (n : ℕ) → get_elem? words 1 ≡ some n → slice_index words 1 ≡ n
second_is [] n at = absurd (some-ne-none n (sym at))
second_is (x ∷ []) n at = absurd (some-ne-none n (sym at))
second_is (x ∷ y ∷ xs) n at = some-injective y n at

module _ (begin : ℕ → ℕ) (find : ℕ → Option ℕ) (pieces workers : ℕ) where
  -- the view of all workers has all that any view has
  whole : (s : State Unit View) (id : ℕ) (v : View) (g : Entry → ℕ) → IsRuled begin find pieces workers s → get_elem? s.views id ≡ some v → v.workers ≡ workers
      → total (total g) (hands_of s.views) ≡ total g v.entries
  whole s id v g rule at all = total-hands (total g) s.views ∙ total-only (λ (u : View). total g u.entries) s.views id v at
      (λ k u apart there. ap (total g) (rule.spent k u there (omega (arith, terms_le (λ (x : View). x.workers) s.views id k v u apart at there, rule.staffed))))

  pub alone : (s : State Unit View) (id : ℕ) (v : View) → IsRuled begin find pieces workers s → get_elem? s.views id ≡ some v → v.workers ≡ workers
      → IsKept begin find pieces (slice_index s.words 0) (least_of (slice_index s.words 1)) (v.entries ∷ [])
  alone s id v rule at all =
      let least = least_of (slice_index s.words 1) in
      let hands = hands_of s.views in
      let one : List (List Entry) = v.entries ∷ [] in
      let same : (g : Entry → ℕ) → total (total g) one ≡ total (total g) hands = λ g. omega (arith, whole s id v g rule at all) in
      let fits = each_at (Each (Fits begin find pieces least hands)) hands id v.entries rule.kept.fits (hand_at s.views id v at) in
      record {
        once = λ f. same (λ (e : Entry). f e.number) ∙ rule.kept.once f;
        fits = (
          each_map (Fits begin find pieces least hands) (Fits begin find pieces least one) v.entries (λ e fit. record {
            stage = fit.stage;
            look = λ l there. let was = fit.look l there in (was.0, omega (arith, was.1, same (λ (x : Entry). is_post l x.stage)));
          }) fits,
          tt,
        );
        posted = λ l there. omega (arith, rule.kept.posted l there, same (λ (x : Entry). is_post l x.stage));
      }

-- a word that stands for a posted step is small, so the step is read from it
pub word_read : (begin : ℕ → ℕ) (find : ℕ → Option ℕ) (pieces next n : ℕ) (es : List Entry) (r : Option ℕ)
    → IsKept begin find pieces next (least_of n) (es ∷ []) → ((k step : ℕ) → k < pieces → find k ≡ Some step → step < 2 ^ 32) → IsWord n r → least_of n ≡ r
word_read begin find pieces next n es r kept within word = dite (ℕ_discrete n no_step)
    (λ none_yet. least_none n none_yet ∙ sym (word.large (omega arith)))
    (λ step.
    let is = least_some n step in
    let p = pick (λ (e : Entry). is_post n e.stage) (Fits begin find pieces (least_of n) (es ∷ [])) es kept.fits.0 (omega (arith, kept.posted n is)) in
    let fit = subst (FitsStage begin find pieces (least_of n) p.0) (post_pos n p.0.stage p.1) p.2.stage in
    is ∙ sym (word.small (within p.0.number n fit.0 fit.1)))
