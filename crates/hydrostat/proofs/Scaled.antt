-- Where the line in parts leaves no doubt of a draught, neither do its numbers in units.
use Rattle.std.proofs.Common.{Bool, true, false, ◌≡◌, ◌*◌, ◌^◌, ◌≤◌, ℤ, pos, neg_ℤ, ◌+ℤ◌, ◌-ℤ◌, ◌*ℤ◌, ◌≤ℤ◌, unsigned_abs, refl, arith}
use Rattle.units_core.proofs.Signed.{signed_arith, one_part, distributes, product_within}
use Rattle.units_core.proofs.Order.{cancel_order, times_order}
use Rattle.units_core.proofs.Ring.{diff_of, diff_same, differences}
use Rattle.hydrostat.specs.Leading.{IsScaled, IsNear, IsSure}

-- what a quotient leaves in units, 2^40 times over, by what it leaves in parts
parts : (m a s b t d x q : ℤ) → ((b -ℤ (t *ℤ x)) -ℤ (q *ℤ d)) *ℤ m
    ≡ ((((a -ℤ (s *ℤ x)) -ℤ (q *ℤ m)) *ℤ d) -ℤ ((a *ℤ d) -ℤ (b *ℤ m))) +ℤ (((s *ℤ d) -ℤ (t *ℤ m)) *ℤ x)
parts m a s b t d x q = rw (diff_of m, diff_of a, diff_of s, diff_of b, diff_of t, diff_of d, diff_of x, diff_of q) (simp differences (diff_same _ _ _ _ (omega arith)))

near_start : (g n d : ℤ) → IsNear g n d (pos 128) → unsigned_abs ((g *ℤ d) -ℤ (n *ℤ pos (2 ^ 40))) ≤ 128 * unsigned_abs d
near_start g n d is = within ((g *ℤ d) -ℤ (n *ℤ pos (2 ^ 40))) d is.low is.high where
  within : (e d : ℤ) → neg_ℤ (pos 128 *ℤ d) ≤ℤ e → e ≤ℤ (pos 128 *ℤ d) → unsigned_abs e ≤ 128 * unsigned_abs d
  within e d h k = omega (arith, signed_arith, one_part e, one_part d, h, k)

near_slope : (g n d : ℤ) → IsNear g n d (pos 2) → unsigned_abs ((g *ℤ d) -ℤ (n *ℤ pos (2 ^ 40))) ≤ 2 * unsigned_abs d
near_slope g n d is = within ((g *ℤ d) -ℤ (n *ℤ pos (2 ^ 40))) d is.low is.high where
  within : (e d : ℤ) → neg_ℤ (pos 2 *ℤ d) ≤ℤ e → e ≤ℤ (pos 2 *ℤ d) → unsigned_abs e ≤ 2 * unsigned_abs d
  within e d h k = omega (arith, signed_arith, one_part e, one_part d, h, k)

low_end : (p e f d : ℤ) → pos (2 ^ 39) ≤ℤ d → (pos 6000132 *ℤ d) ≤ℤ p → unsigned_abs e ≤ 128 * unsigned_abs d → unsigned_abs f ≤ 2 * unsigned_abs d * 10 ^ 6
    → (pos 2000002 *ℤ pos (2 ^ 40)) ≤ℤ ((p -ℤ e) +ℤ f)
low_end p e f d low above eu fu = omega (arith, signed_arith, one_part e, one_part f, one_part d, low, above, eu, fu)

high_end : (p e f d : ℤ) → pos (2 ^ 39) ≤ℤ d → (p +ℤ (pos 6000132 *ℤ d)) ≤ℤ (pos (2 ^ 40) *ℤ d) → unsigned_abs e ≤ 128 * unsigned_abs d → unsigned_abs f ≤ 2 * unsigned_abs d * 10 ^ 6
    → (((p -ℤ e) +ℤ f) +ℤ (pos 2000002 *ℤ pos (2 ^ 40))) ≤ℤ (d *ℤ pos (2 ^ 40))
high_end p e f d low below eu fu = omega (arith, signed_arith, one_part e, one_part f, one_part d, low, below, eu, fu)

pub scaled_is_sure : (a s b t d x q : ℤ) → IsScaled a s b t d → unsigned_abs x ≤ 10 ^ 6 → unsigned_abs q ≤ 10 ^ 6
    → pos 6000132 ≤ℤ ((a -ℤ (s *ℤ x)) -ℤ (q *ℤ pos (2 ^ 40))) → (((a -ℤ (s *ℤ x)) -ℤ (q *ℤ pos (2 ^ 40))) +ℤ pos 6000132) ≤ℤ pos (2 ^ 40)
    → IsSure q (b -ℤ (t *ℤ x)) d
scaled_is_sure a s b t d x q scaled hx hq above below =
    let m = pos (2 ^ 40) in
    let p = (a -ℤ (s *ℤ x)) -ℤ (q *ℤ m) in
    let r = (b -ℤ (t *ℤ x)) -ℤ (q *ℤ d) in
    let e = (a *ℤ d) -ℤ (b *ℤ m) in
    let f = ((s *ℤ d) -ℤ (t *ℤ m)) *ℤ x in
    let least : pos 0 ≤ℤ d = omega (arith, signed_arith, scaled.divisor_low) in
    let one : pos 1 ≤ℤ m = omega (arith, signed_arith) in
    let eu = near_start a b d scaled.is_start in
    let fu = product_within ((s *ℤ d) -ℤ (t *ℤ m)) x (2 * unsigned_abs d) (10 ^ 6) (near_slope s t d scaled.is_slope) hx in
    let low = times_order (pos 6000132) p d least above in
    let wide = times_order (p +ℤ pos 6000132) m d least below in
    let apart : ((p *ℤ d) +ℤ (pos 6000132 *ℤ d)) ≤ℤ (m *ℤ d) = rw (← distributes p (pos 6000132) d) wide in
    let same = parts m a s b t d x q in
    record {
      within = hq;
      above = cancel_order (pos 2000002) r m one (rw same (low_end (p *ℤ d) e f d scaled.divisor_low low eu fu));
      below = cancel_order (r +ℤ pos 2000002) d m one (rw (distributes r (pos 2000002) m, same) (high_end (p *ℤ d) e f d scaled.divisor_low apart eu fu));
    }

-- a draught is sure on a known line alone: where start and slope are 0, nothing is left over
-- whole millimetres
pub sure_is_known : (known : Bool) (a s x q r : ℤ) → (known ≡ false → (a ≡ pos 0) × (s ≡ pos 0)) → r ≡ (a -ℤ (s *ℤ x)) -ℤ (q *ℤ pos (2 ^ 40)) → pos 6000132 ≤ℤ r → (r +ℤ pos 6000132) ≤ℤ pos (2 ^ 40) → known ≡ true
sure_is_known true a s x q r idle e low high = refl
sure_is_known false a s x q r idle e low high = absurd (nothing a s x q r (idle refl).0 (idle refl).1 e low high) where
  nothing : (a s x q r : ℤ) → a ≡ pos 0 → s ≡ pos 0 → r ≡ (a -ℤ (s *ℤ x)) -ℤ (q *ℤ pos (2 ^ 40)) → pos 6000132 ≤ℤ r → (r +ℤ pos 6000132) ≤ℤ pos (2 ^ 40) → ⊥
  nothing a s x q r f g e low high = omega (arith, signed_arith, f, rw g at e, low, high)
