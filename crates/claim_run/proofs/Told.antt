-- What a hand did, with what is pending of its newest entry.
use Rattle.std.proofs.Common.{◌≡◌, ℕ, ◌+◌, ◌<◌, ◌≤◌, List, [], ◌∷◌, ◌++◌, ap, sym, ◌∙◌, refl, arith, Option, Some, None}
use Rattle.claim_board.specs.declared.entries.Stage.TheVariants.{Looked}
use Rattle.claim_board.specs.declared.entries.Entry.{Entry}
use Rattle.claim_board.specs.Entries.{total, numbers, is, is_post, posts}
use Rattle.claim_board.specs.Claims.{IsFair, IsLeastPosted}
use Rattle.claim_run.specs.declared.views.Pending.{Pending}
use Rattle.claim_run.specs.declared.views.Pending.TheVariants as pending
use Rattle.claim_run.specs.Hands.{entries_with, MayEnd}
use Rattle.claim_run.proofs.Turning.{same_numbers}

module _ (begin : ℕ → ℕ) (find : ℕ → Option ℕ) where
  pub entries_append : (p : Pending) (es fs : List Entry) → MayEnd begin find p es → entries_with p (es ++ fs) ≡ entries_with p es ++ fs
  entries_append pending.Nothing es fs may = refl
  entries_append pending.Skip [] fs may = let is = may.2 in absurd (cc)
  entries_append pending.Skip (x ∷ xs) fs may = refl
  entries_append pending.Work [] fs may = let is = may.2 in absurd (cc)
  entries_append pending.Work (x ∷ xs) fs may = refl

  pub may_append : (p : Pending) (es fs : List Entry) → MayEnd begin find p es → MayEnd begin find p (es ++ fs)
  may_append pending.Nothing es fs may = tt
  may_append pending.Skip es fs may = (may.0, may.1 ++ fs, ap (λ (k : List Entry). k ++ fs) may.2, may.3, may.4)
  may_append pending.Work es fs may = (may.0, may.1 ++ fs, ap (λ (k : List Entry). k ++ fs) may.2, may.3, may.4)

  stage_is : (x : Entry) (xs : List Entry) (e : Entry) (rest : List Entry) → x ∷ xs ≡ e ∷ rest → e.stage ≡ Looked → x.stage ≡ Looked
  stage_is x xs e rest is looked = let same : x ≡ e = cc in ap (λ (y : Entry). y.stage) same ∙ looked

  pub same_posts : (n : ℕ) (p : Pending) (es : List Entry) → MayEnd begin find p es → posts n (entries_with p es) ≡ posts n es
  same_posts n pending.Nothing es may = refl
  same_posts n pending.Skip [] may = refl
  same_posts n pending.Skip (x ∷ xs) may = ap (λ stage. is_post n stage + posts n xs) (sym (stage_is x xs may.0 may.1 may.2 may.3))
  same_posts n pending.Work [] may = refl
  same_posts n pending.Work (x ∷ xs) may = ap (λ stage. is_post n stage + posts n xs) (sym (stage_is x xs may.0 may.1 may.2 may.3))

pub fair_same : (next : ℕ) (p : Pending) (es : List Entry) → IsFair next (es ∷ []) → IsFair next (entries_with p es ∷ [])
fair_same next p es fair k = (let same : total (numbers (is k)) (entries_with p es ∷ []) ≡ total (numbers (is k)) (es ∷ []) = omega (arith, same_numbers (is k) p es) in same) ∙ fair k

pub least_same : (es fs : List Entry) → ((f : ℕ) → posts f fs ≡ posts f es) → (r : Option ℕ) → IsLeastPosted r (es ∷ []) → IsLeastPosted r (fs ∷ [])
least_same es fs same None least = λ f. omega (arith, least f, same f)
least_same es fs same (Some l) least = (omega (arith, least.0, same l), λ f some. least.1 f (omega (arith, some, same f)))
