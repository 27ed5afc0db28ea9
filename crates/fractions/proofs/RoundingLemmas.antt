-- Rounding keeps the order, and tells on which side of a limit a value lies.
use Rattle.std.proofs.Common.{◌≡◌, ◌∙◌, ℕ, ◌*◌, ◌<◌, ℤ, pos, negsuc, neg_ℤ, ◌+ℤ◌, ◌-ℤ◌, ◌*ℤ◌, ◌≤ℤ◌, ◌<ℤ◌, true, false, not, sym, ap, arith}
use Rattle.std.specs.Prelude.{int_le, int_lt}
use Rattle.std.proofs.lemmas.Int.{by_lt_z}
use borrow.Author.Differences.{true_is_le, false_is_le, true_is_lt, false_is_lt}
use Rattle.units_core.proofs.Signed.{signed_arith, associates, commutes, distributes, product_positive}
use Rattle.units_core.proofs.Ring.{diff_of, diff_same, differences}
use Rattle.units_core.proofs.Order.{times_order, times_strict}
use Rattle.units_core.proofs.Decisions.{floor_is}
use Rattle.units_core.specs.Ratio.{Is, Ratio, ◌over◌, ◌⊖◌, ◌⊘◌, floor_of, is_no_more}
use Rattle.fractions.specs.Rounded.{AtLeastInPrint, AtMostInPrint, PercentInPrint, down, percent, up}

-- what a test says
is_at_most : (x y : ℤ) → int_le x y ≡ true → x ≤ℤ y
is_at_most x y h = by_lt_z y x (λ less. (cc (h, false_is_le x y (omega (arith, signed_arith, less))))) (λ le. le)

is_above : (x y : ℤ) → int_le x y ≡ false → y <ℤ x
is_above x y h = by_lt_z y x (λ less. less) (λ le. (cc (h, true_is_le x y (omega (arith, signed_arith, le)))))

-- one test is the opposite of another
opposite_tests : (a b c d : ℤ) → (a <ℤ b → d <ℤ c) → (b ≤ℤ a → c ≤ℤ d) → int_lt a b ≡ not (int_le c d)
opposite_tests a b c d f g =
    by_lt_z a b
    (λ less. sym (true_is_lt a b (omega (arith, signed_arith, less))) ∙ ap not (false_is_le c d (omega (arith, signed_arith, f less))))
    (λ le. sym (false_is_lt a b (omega (arith, signed_arith, le))) ∙ ap not (true_is_le c d (omega (arith, signed_arith, g le))))

-- products
zero_times : (d : ℤ) → pos 0 *ℤ d ≡ pos 0
zero_times d = rw (diff_of d, diff_of (pos 0)) (simp differences (diff_same _ _ _ _ (omega arith)))

pub neg_times : (a b : ℤ) → neg_ℤ a *ℤ b ≡ neg_ℤ (a *ℤ b)
neg_times a b =
    let none : neg_ℤ a +ℤ a ≡ pos 0 = omega (arith, signed_arith) in
    let all : (neg_ℤ a *ℤ b) +ℤ (a *ℤ b) ≡ pos 0 = sym (distributes (neg_ℤ a) a b) ∙ ap (λ x. x *ℤ b) none ∙ zero_times b in
    omega (arith, signed_arith, all)

pub turn : (x y z : ℤ) → (x *ℤ y) *ℤ z ≡ (x *ℤ z) *ℤ y
turn x y z = associates x y z ∙ ap (λ v. x *ℤ v) (commutes y z) ∙ sym (associates x z y)

-- a ratio rounded down is below a whole number exactly where the ratio is
below_from_floor : (r : Ratio) (k : ℤ) → pos 1 ≤ℤ r.bottom → floor_of r <ℤ k → r.top <ℤ (k *ℤ r.bottom)
below_from_floor r k h less =
    let f = floor_is r h in
    let step = times_order (floor_of r +ℤ pos 1) k r.bottom (omega (arith, signed_arith, h)) (omega (arith, signed_arith, less)) in
    omega (arith, signed_arith, f.1, step)

from_floor : (r : Ratio) (k : ℤ) → pos 1 ≤ℤ r.bottom → k ≤ℤ floor_of r → (k *ℤ r.bottom) ≤ℤ r.top
from_floor r k h le =
    let f = floor_is r h in
    let step = times_order k (floor_of r) r.bottom (omega (arith, signed_arith, h)) le in
    omega (arith, signed_arith, f.0, step)

-- what is no more is no more when both are rounded down: else its floor were a whole number that the
-- other's ratio is below
floors : (n d m e : ℤ) → pos 1 ≤ℤ d → pos 1 ≤ℤ e → (n *ℤ e) ≤ℤ (m *ℤ d) → floor_of (n over d) ≤ℤ floor_of (m over e)
floors n d m e h k le =
    let p = floor_of (n over d) in
    by_lt_z (floor_of (m over e)) p
    (λ less.
    let low = times_strict m (p *ℤ e) d h (below_from_floor (m over e) p k less) in
    let high = times_order (p *ℤ d) n e (omega (arith, signed_arith, k)) (from_floor (n over d) p h (omega (arith, signed_arith))) in
    absurd (omega (arith, signed_arith, le, low, high, turn p e d)))
    (λ at_most. at_most)

pub downs : (a b : Ratio) (s : ℕ) → pos 1 ≤ℤ a.bottom → pos 1 ≤ℤ b.bottom → (a.top *ℤ b.bottom) ≤ℤ (b.top *ℤ a.bottom) → down a s ≤ℤ down b s
downs a b s h k le =
    let any : pos 0 ≤ℤ pos s = omega (arith, signed_arith) in
    let scaled = rw (turn a.top b.bottom (pos s), turn b.top a.bottom (pos s)) at (times_order (a.top *ℤ b.bottom) (b.top *ℤ a.bottom) (pos s) any le) in
    floors (a.top *ℤ pos s) a.bottom (b.top *ℤ pos s) b.bottom h k scaled

pub ups : (a b : Ratio) (s : ℕ) → pos 1 ≤ℤ a.bottom → pos 1 ≤ℤ b.bottom → (a.top *ℤ b.bottom) ≤ℤ (b.top *ℤ a.bottom) → up a s ≤ℤ up b s
ups a b s h k le =
    let any : pos 0 ≤ℤ pos s = omega (arith, signed_arith) in
    let scaled = rw (turn a.top b.bottom (pos s), turn b.top a.bottom (pos s)) at (times_order (a.top *ℤ b.bottom) (b.top *ℤ a.bottom) (pos s) any le) in
    let p = neg_times (a.top *ℤ pos s) b.bottom in
    let q = neg_times (b.top *ℤ pos s) a.bottom in
    let back : (neg_ℤ (b.top *ℤ pos s) *ℤ a.bottom) ≤ℤ (neg_ℤ (a.top *ℤ pos s) *ℤ b.bottom) = rw (p, q) (omega (arith, signed_arith, scaled)) in
    let both = floors (neg_ℤ (b.top *ℤ pos s)) b.bottom (neg_ℤ (a.top *ℤ pos s)) a.bottom k h back in
    omega (arith, signed_arith, both)

-- a margin, b less a, is negative exactly where a is more than b
margin : (a b : Ratio) (s : ℕ) → pos 1 ≤ℤ a.bottom → pos 1 ≤ℤ b.bottom → 0 < s → int_lt (down (b ⊖ a) s) (pos 0) ≡ not (is_no_more a b)
margin a b s h k positive =
    let x = (b.top *ℤ a.bottom) -ℤ (a.top *ℤ b.bottom) in
    let by = product_positive b.bottom a.bottom k h in
    let r : Ratio = (x *ℤ pos s) over (b.bottom *ℤ a.bottom) in
    let scale : pos 1 ≤ℤ pos s = omega (arith, signed_arith, positive) in
    let none = zero_times (b.bottom *ℤ a.bottom) in
    opposite_tests (down (b ⊖ a) s) (pos 0) (a.top *ℤ b.bottom) (b.top *ℤ a.bottom)
    (λ less.
    let low = below_from_floor r (pos 0) by less in
    by_lt_z x (pos 0)
    (λ l. omega (arith, signed_arith, l))
    (λ le. absurd (omega (arith, signed_arith, low, none, zero_times (pos s), times_order (pos 0) x (pos s) (omega (arith, signed_arith)) le))))
    (λ le.
    let high = from_floor r (pos 0) by le in
    by_lt_z x (pos 0)
    (λ l. absurd (omega (arith, signed_arith, high, none, zero_times (pos s), times_strict x (pos 0) (pos s) scale l)))
    (λ more. omega (arith, signed_arith, more)))

pub at_least_in_print : (value limit : Ratio) (s : ℕ) → pos 1 ≤ℤ value.bottom → pos 1 ≤ℤ limit.bottom → 0 < s → AtLeastInPrint value limit s
at_least_in_print v l s h k positive = record {
  sign = margin l v s k h positive;
  kept = λ e. downs l v s k h (is_at_most (l.top *ℤ v.bottom) (v.top *ℤ l.bottom) e);
  broken = λ e. let more = is_above (l.top *ℤ v.bottom) (v.top *ℤ l.bottom) e in downs v l s h k (omega (arith, signed_arith, more));
}

pub at_most_in_print : (value limit : Ratio) (s : ℕ) → pos 1 ≤ℤ value.bottom → pos 1 ≤ℤ limit.bottom → 0 < s → AtMostInPrint value limit s
at_most_in_print v l s h k positive = record {
  sign = margin v l s h k positive;
  kept = λ e. ups v l s h k (is_at_most (v.top *ℤ l.bottom) (l.top *ℤ v.bottom) e);
  broken = λ e. let more = is_above (v.top *ℤ l.bottom) (l.top *ℤ v.bottom) e in ups l v s k h (omega (arith, signed_arith, more));
}

pub percent_in_print : (part all : Ratio) → pos 1 ≤ℤ part.bottom → pos 1 ≤ℤ all.bottom → pos 1 ≤ℤ all.top → PercentInPrint part all
percent_in_print part all h k positive =
    let n = part.top *ℤ all.bottom in
    let d = part.bottom *ℤ all.top in
    let by = product_positive part.bottom all.top h positive in
    let r : Ratio = neg_ℤ (n *ℤ pos 100) over d in
    let turned : all.top *ℤ part.bottom ≡ d = commutes all.top part.bottom in
    let hundred : negsuc 99 *ℤ d ≡ neg_ℤ (pos 100 *ℤ d) = neg_times (pos 100) d in
    opposite_tests (pos 100) (percent part all) n (all.top *ℤ part.bottom)
    (λ more. let low = below_from_floor r (negsuc 99) by (omega (arith, signed_arith, more)) in omega (arith, signed_arith, low, turned, hundred))
    (λ le. let high = from_floor r (negsuc 99) by (omega (arith, signed_arith, le)) in omega (arith, signed_arith, high, turned, hundred))

-- a fraction of a ratio so many times, and with the other sign
pub times_is : (n d : ℤ) (r : Ratio) (s : ℕ) → Is n d r → Is (n *ℤ pos s) d ((r.top *ℤ pos s) over r.bottom)
times_is n d r s p = (p.0, p.1, turn n (pos s) r.bottom ∙ ap (λ x. x *ℤ pos s) p.2 ∙ turn r.top d (pos s))

pub negated_is : (n d : ℤ) (r : Ratio) → Is n d r → Is (neg_ℤ n) d (neg_ℤ r.top over r.bottom)
negated_is n d r p = (p.0, p.1, neg_times n r.bottom ∙ ap neg_ℤ p.2 ∙ sym (neg_times r.top d))
