-- Fractions with a minus before their size, and fractions of an ordinate.
use Rattle.std.proofs.Common.{◌≡◌, ◌∙◌, ℕ, ℤ, pos, negsuc, neg_ℤ, ◌*ℤ◌, ◌+ℤ◌, ◌-ℤ◌, ◌≤ℤ◌, ◌*◌, unsigned_abs, Option, None, Some, IsSomeAnd, sym, ap, arith}
use Rattle.std.proofs.lemmas.Int.{unsigned_abs-mul}
use Rattle.units_core.proofs.Signed.{signed_arith}
use Rattle.units_core.specs.Ratio.{Is, Ratio}
use Rattle.fractions.proofs.RoundingLemmas.{neg_times}
use Rattle.worst_values.specs.Limits.{alone, by, ordinate_alone, size_below}
use Rattle.worst_values.specs.Worst.{Candidate, worst_of}

-- sizes
sizes : (n d t b : ℤ) → pos 1 ≤ℤ d → pos 1 ≤ℤ b → n *ℤ b ≡ t *ℤ d → pos (unsigned_abs n) *ℤ b ≡ pos (unsigned_abs t) *ℤ d
sizes n (pos d) t (pos b) h k e = ap pos (sym (unsigned_abs-mul n (pos b)) ∙ ap unsigned_abs e ∙ unsigned_abs-mul t (pos d))
sizes n (negsuc d) t b h k e = absurd (omega (arith, signed_arith, h))
sizes n (pos d) t (negsuc b) h k e = absurd (omega (arith, signed_arith, k))

pub is_size_below : (n d : ℤ) (r : Ratio) → Is n d r → Is (neg_ℤ (pos (unsigned_abs n))) d (size_below r)
is_size_below n d r p =
    (p.0, p.1, neg_times (pos (unsigned_abs n)) r.bottom ∙ ap neg_ℤ (sizes n d r.top r.bottom p.0 p.1 p.2) ∙ sym (neg_times (pos (unsigned_abs r.top)) d))

-- what is so of any ratio that a fraction is, is so of the ordinate that it is
pub by_ordinate : (k : ℕ) (n d : ℤ) (y : ℕ → Ratio) (o : Option ℕ) (result : Option Candidate) → IsSomeAnd o (λ i. Is n d (y i))
    → ((r : Ratio) → Is n d r → result ≡ worst_of (alone k (by r))) → result ≡ worst_of (ordinate_alone k y o)
by_ordinate k n d y None result is told = absurd is
by_ordinate k n d y (Some i) result is told = told (y i) is
