-- A ratio against a fraction over another divisor; an ordinate; every frame in turn.
use Rattle.std.proofs.Common.{◌≡◌, ◌∙◌, ℕ, suc, ◌+◌, ◌<◌, ℤ, pos, neg_ℤ, ◌*ℤ◌, ◌≤ℤ◌, ◌<ℤ◌, Bool, true, false, ◌&&◌, List, length, drop, get_or, sym, ap, arith, Option, None, Some, IsSomeAnd, option_map}
use Rattle.std.specs.Prelude.{int_le, int_lt}
use borrow.Author.Differences.{true_is_lt, false_is_lt}
use Rattle.std.proofs.lemmas.List.{drop_more}
use Rattle.units_core.proofs.Signed.{signed_arith}
use Rattle.units_core.proofs.Order.{cancel_order, times_order}
use Rattle.units_core.proofs.Ring.{diff_of, diff_same, differences}
use Rattle.units_core.specs.Ratio.{Ratio, ◌over◌, Is, floor_of, is_at_least, is_no_more}
use Rattle.units_core.specs.declared.frames.Frame.{Frame}
use Rattle.units_core.proofs.Decisions.{same_test, at_least_same, at_most_same}
use Rattle.criteria.specs.Criteria.{every, is_within, reaches_at}
use Rattle.criteria.specs.Printed.{IsFigure}

move : (t d g : ℤ) → (t *ℤ d) *ℤ g ≡ (t *ℤ g) *ℤ d
move t d g = rw (diff_of t, diff_of d, diff_of g) (simp differences (diff_same _ _ _ _ (omega arith)))

-- t / b is at most the ratio g where t d <= n b
pub no_more_is : (t b n d : ℤ) (g : Ratio) → Is n d g → int_le (t *ℤ d) (n *ℤ b) ≡ is_no_more (t over b) g
no_more_is t b n d g p =
    same_test (t *ℤ d) (n *ℤ b) (t *ℤ g.bottom) (g.top *ℤ b)
    (λ h. cancel_order (t *ℤ g.bottom) (g.top *ℤ b) d p.0 (rw (move t g.bottom d, move g.top b d, ← p.2, move n g.bottom b) (times_order (t *ℤ d) (n *ℤ b) g.bottom (omega (arith, signed_arith, p.1)) h)))
    (λ h. cancel_order (t *ℤ d) (n *ℤ b) g.bottom p.1 (rw (move t d g.bottom, move n b g.bottom, p.2, move g.top d b) (times_order (t *ℤ g.bottom) (g.top *ℤ b) d (omega (arith, signed_arith, p.0)) h)))

-- a number is positive, or not
pub is_positive : (z : ℤ) → pos 0 <ℤ z → int_lt (pos 0) z ≡ true
is_positive z h = sym (true_is_lt (pos 0) z (omega (arith, signed_arith, h)))

pub is_not_positive : (z : ℤ) → z ≤ℤ pos 0 → int_lt (pos 0) z ≡ false
is_not_positive z h = sym (false_is_lt (pos 0) z (omega (arith, signed_arith, h)))

-- frame by frame
pub every_more : (p : Frame → ℕ → Bool) (fs : List Frame) (i : ℕ) (f d : Frame) (all : Bool) → i < length fs → all ≡ every p (drop i fs) i → p (get_or fs i d) i ≡ true → all ≡ every p (drop (i + 1) fs) (i + 1)
every_more p fs i f d all inside so_far here =
    so_far ∙ ap (λ (xs : List Frame). every p xs i) (drop_more fs i d inside) ∙ ap (λ b. b && every p (drop (i + 1) fs) (suc i)) here ∙ ap (λ k. every p (drop (i + 1) fs) k) (omega arith)

pub every_stops : (p : Frame → ℕ → Bool) (fs : List Frame) (i : ℕ) (d : Frame) (all : Bool) → i < length fs → all ≡ every p (drop i fs) i → p (get_or fs i d) i ≡ false → all ≡ false
every_stops p fs i d all inside so_far here =
    so_far ∙ ap (λ (xs : List Frame). every p xs i) (drop_more fs i d inside) ∙ ap (λ b. b && every p (drop (i + 1) fs) (suc i)) here

pub within_same : (n d : ℤ) (r : Ratio) (m : ℤ) → Is n d r → is_within (n over d) m ≡ is_within r m
within_same n d r m p = λ i. at_least_same n d r (neg_ℤ m) p i && at_most_same n d r m p i

-- a comparison of a fraction that is an ordinate, as a comparison of the ordinate
pub ordinate_reaches : (n e : ℤ) (y : ℕ → Ratio) (limit : ℤ) (o : Option ℕ) → IsSomeAnd o (λ k. Is n e (y k)) → is_at_least (n over e) limit ≡ reaches_at y limit o
ordinate_reaches n e y limit None p = absurd p
ordinate_reaches n e y limit (Some k) p = at_least_same n e (y k) limit p

pub ordinate_down : (q n e : ℤ) (y : ℕ → Ratio) (o : Option ℕ) → IsFigure q n e → IsSomeAnd o (λ k. Is n e (y k)) → Some q ≡ option_map (λ k. floor_of (y k)) o
ordinate_down q n e y None f p = absurd p
ordinate_down q n e y (Some k) f p = ap (λ (z : ℤ). Some z) (f (y k) p)
