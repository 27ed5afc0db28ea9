-- What a turn makes of a hand, step by step.
use Rattle.std.proofs.Common.{◌≡◌, ℕ, ◌+◌, ◌<◌, ◌≤◌, List, [], ◌∷◌, ap, sym, ◌∙◌, refl, arith, Some, None}
use Rattle.claim_board.specs.declared.entries.Entry.{Entry}
use Rattle.claim_board.specs.Entries.{total, fresh, with_look, ended, numbers, NotBefore}
use Rattle.claim_run.specs.declared.views.View.{View}
use Rattle.claim_run.specs.declared.views.Pending.{Pending}
use Rattle.claim_run.specs.declared.views.Pending.TheVariants as pending
use Rattle.claim_run.specs.Views.{no_step, least_of, late}
use Rattle.claim_run.specs.Hands.{entries_with, IsFree}
use Rattle.claim_run.specs.Shared.{tail}
use Rattle.claim_run.proofs.Carries.{late_low}
use Rattle.claim_run.proofs.Words.{least_is}

pub same_numbers : (f : ℕ → ℕ) (p : Pending) (es : List Entry) → numbers f (entries_with p es) ≡ numbers f es
same_numbers f pending.Nothing es = refl
same_numbers f pending.Skip [] = refl
same_numbers f pending.Skip (e ∷ es) = refl
same_numbers f pending.Work [] = refl
same_numbers f pending.Work (e ∷ es) = refl

-- a chunk that was drawn leaves as much room for numbers past the last chunk
pub stays_free : (pieces : ℕ) (e : Entry) (p : Pending) (v w : View) → w.entries ≡ e ∷ entries_with p v.entries → w.workers ≡ v.workers → e.number < pieces → IsFree pieces v → IsFree pieces w
stays_free pieces e p v w is staff low free =
    let now = ap (numbers (late pieces)) is in
    omega (arith, now, same_numbers (late pieces) p v.entries, late_low pieces e.number low)

-- the newest entry after the draw and the look
pub looked_newest : (n : ℕ) (e : Entry) (before drawn after : List Entry) → drawn ≡ fresh n ∷ before → after ≡ e ∷ tail drawn → after ≡ e ∷ before
looked_newest n e before drawn after is then = then ∙ ap (λ (l : List Entry). e ∷ tail l) is

-- the value of word 1, where it isn't before the chunk
pub not_before : (word begin : ℕ) → begin ≤ word → NotBefore begin (least_of word)
not_before word begin le l is = omega (arith, least_is word l is, le)
