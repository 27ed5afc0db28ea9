-- What isn't worse than a mark isn't worse than what is worse than the mark.
use Rattle.std.proofs.Common.{◌≡◌, ◌∙◌, ℕ, ℤ, pos, ◌≤ℤ◌, Bool, true, false, cond, Option, None, Some, refl, sym, ap, arith}
use Rattle.std.specs.Prelude.{IfSome}
use Rattle.units_core.proofs.Signed.{signed_arith}
use Rattle.units_core.specs.Ratio.{◌over◌}
use Rattle.fractions.specs.Marks.{at_mark}
use Rattle.fractions.specs.Order.{is_below}
use Rattle.worst_values.specs.Lowest.{lowest}
use Rattle.worst_values.specs.Rows.{is_marked, mark_of}
use Rattle.worst_values.specs.Worst.{Candidate, is_worse, joined}
use Rattle.worst_values.proofs.LowestTerms.{below_twice}
use Rattle.worst_values.proofs.WorstLemmas.{never_back, no_worse_on}

pub not_below_mark : (n d m : ℤ) → pos 1 ≤ℤ d → is_below (n over d) (at_mark m) ≡ false → is_worse (record { beyond = false; by = lowest (n over d) }) (mark_of m) ≡ false
not_below_mark n d m h k = sym (below_twice (n over d) (at_mark m) h (omega (arith, signed_arith))) ∙ k

-- a value that isn't beyond all measure is worse than a mark above it
pub marked_above : (step place : ℕ) (b : Bool) (n d : ℤ) (o : Option ℤ) → pos 1 ≤ℤ d → b ≡ false → IfSome o (λ m. is_below (n over d) (at_mark m) ≡ true)
    → is_marked (Some (record { step = step; place = place; safety = record { beyond = b; by = lowest (n over d) } })) o ≡ true
marked_above step place b n d None h kept k = refl
marked_above step place b n d (Some m) h kept k =
    ap (λ (c : Bool). is_worse (record { beyond = c; by = lowest (n over d) }) (mark_of m)) kept ∙ sym (below_twice (n over d) (at_mark m) h (omega (arith, signed_arith))) ∙ k

pub kept_by_mark : (o : Option Candidate) (m : ℤ) (x : Candidate) → is_marked o (Some m) ≡ true → is_worse x.safety (mark_of m) ≡ false → joined o (Some x) ≡ o
kept_by_mark None m x h k = (cc)
kept_by_mark (Some w) m x h k = ap (λ (b : Bool). Some (cond b x w)) (no_worse_on x.safety (mark_of m) w.safety k (never_back w.safety (mark_of m) h))
