-- A draught decided in whole units is the draught rounded down.
use Rattle.std.proofs.Common.{◌≡◌, ◌∙◌, ℕ, ◌*◌, ◌^◌, ◌≤◌, ℤ, pos, negsuc, ◌<◌, ◌+ℤ◌, ◌-ℤ◌, ◌*ℤ◌, ◌≤ℤ◌, ◌<ℤ◌, unsigned_abs, refl, arith}
use Rattle.std.specs.Int.{int_shr}
use Rattle.std.specs.Int.Signed.{shr_z}
use Rattle.std.proofs.lemmas.Nat.{pow_pos}
use Rattle.units_core.proofs.Signed.{signed_arith, one_part, distributes, int_div_euclid-parts, product_within}
use Rattle.units_core.proofs.Order.{times_order}
use Rattle.units_core.proofs.Ring.{diff_of, diff_same, differences, one_times}
use Rattle.units_core.specs.Ratio.{◌over◌, Is, IsFloor, floor_of}
use Rattle.units_core.proofs.Decisions.{floor_is, floor_same, floor_unique}
use Rattle.hydrostat.specs.Floating.{draught_at, load, trim, water}
use Rattle.hydrostat.specs.Leading.{IsInUnits, IsLedBy, IsSure, line_base, line_divisor, line_step, trim_top}
use Rattle.hydrostat.specs.declared.particulars.Afloat.{Afloat}
use Rattle.hydrostat.proofs.Textbook.{draught_is, trim_is}

-- the remainder over the quotient: a number of whole units, and the parts that rounding to units
-- drops
parts : (u bh sh dh b s d x q : ℤ) → (b -ℤ (s *ℤ x)) -ℤ (q *ℤ d)
    ≡ (((((bh -ℤ (sh *ℤ x)) -ℤ (q *ℤ dh)) *ℤ u) +ℤ (b -ℤ (bh *ℤ u))) -ℤ ((s -ℤ (sh *ℤ u)) *ℤ x)) -ℤ (q *ℤ (d -ℤ (dh *ℤ u)))
parts u bh sh dh b s d x q = rw (diff_of u, diff_of bh, diff_of sh, diff_of dh, diff_of b, diff_of s, diff_of d, diff_of x, diff_of q) (simp differences (diff_same _ _ _ _ (omega arith)))

small : (e u : ℤ) → pos 0 ≤ℤ e → e <ℤ u → unsigned_abs e ≤ unsigned_abs u
small e u h k = omega (arith, signed_arith, one_part e, one_part u)

-- a sum of four parts is at least 0, and less than d
both_ends : (r e f g u d : ℤ) → pos 1 ≤ℤ u → (pos 2000002 *ℤ u) ≤ℤ r → (r +ℤ (pos 2000002 *ℤ u)) ≤ℤ d → pos 0 ≤ℤ e → e <ℤ u
    → unsigned_abs f ≤ unsigned_abs u * 10 ^ 6 → unsigned_abs g ≤ 10 ^ 6 * unsigned_abs u
    → (pos 0 ≤ℤ (((r +ℤ e) -ℤ f) -ℤ g)) × ((((r +ℤ e) -ℤ f) -ℤ g) <ℤ d)
both_ends r e f g u d positive low high e0 eu fu gu = (
  omega (arith, signed_arith, one_part u, one_part f, one_part g, positive, low, e0, fu, gu),
  omega (arith, signed_arith, one_part u, one_part f, one_part g, positive, high, eu, fu, gu),
)

ends_of : (n p d : ℤ) → pos 0 ≤ℤ (n -ℤ p) → (n -ℤ p) <ℤ d → (p ≤ℤ n) × (n <ℤ (p +ℤ d))
ends_of n p d h k = (omega (arith, signed_arith, h), omega (arith, signed_arith, k))

next : (q d : ℤ) → (q +ℤ pos 1) *ℤ d ≡ (q *ℤ d) +ℤ d
next q d = rw (distributes q (pos 1) d, one_times d) refl

pub is_floor : (u bh sh dh b s d x q : ℤ) → IsInUnits bh u b → IsInUnits sh u s → IsInUnits dh u d → unsigned_abs x ≤ 10 ^ 6 → IsSure q (bh -ℤ (sh *ℤ x)) dh
    → IsFloor q ((b -ℤ (s *ℤ x)) over d)
is_floor u bh sh dh b s d x q base step divisor hx sure =
    let r = (bh -ℤ (sh *ℤ x)) -ℤ (q *ℤ dh) in
    let e = b -ℤ (bh *ℤ u) in
    let positive : pos 1 ≤ℤ u = omega (arith, signed_arith, base.low, base.rest) in
    let least : pos 0 ≤ℤ u = omega (arith, signed_arith, positive) in
    let f = product_within (s -ℤ (sh *ℤ u)) x (unsigned_abs u) (10 ^ 6) (small _ _ step.low step.rest) hx in
    let g = product_within q (d -ℤ (dh *ℤ u)) (10 ^ 6) (unsigned_abs u) sure.within (small _ _ divisor.low divisor.rest) in
    let low = times_order (pos 2000002) r u least sure.above in
    let wide = times_order (r +ℤ pos 2000002) dh u least sure.below in
    let apart : ((r *ℤ u) +ℤ (pos 2000002 *ℤ u)) ≤ℤ (dh *ℤ u) = rw (← distributes r (pos 2000002) u) wide in
    let high : ((r *ℤ u) +ℤ (pos 2000002 *ℤ u)) ≤ℤ d = omega (arith, signed_arith, apart, divisor.low) in
    let is = both_ends (r *ℤ u) e ((s -ℤ (sh *ℤ u)) *ℤ x) (q *ℤ (d -ℤ (dh *ℤ u))) u d positive low high base.low base.rest f g in
    let same = parts u bh sh dh b s d x q in
    let ends = ends_of (b -ℤ (s *ℤ x)) (q *ℤ d) d (rw same is.0) (rw same is.1) in
    (ends.0, rw (next q d) ends.1)

-- the line is the draught
line_is : (m c e t l g x : ℤ) → (((m *ℤ c) *ℤ e) +ℤ (t *ℤ (l -ℤ (pos 0 *ℤ g)))) -ℤ ((t *ℤ g) *ℤ x) ≡ ((m *ℤ c) *ℤ e) +ℤ (t *ℤ (l -ℤ (x *ℤ g)))
line_is m c e t l g x = rw (diff_of m, diff_of c, diff_of e, diff_of t, diff_of l, diff_of g, diff_of x, diff_of (pos 0)) (simp differences (diff_same _ _ _ _ (omega arith)))

pub draught_is_sure : (a : Afloat) (k : ℕ) (bh sh dh x q : ℤ) → IsLedBy k bh sh dh a → unsigned_abs x ≤ 10 ^ 6 → IsSure q (bh -ℤ (sh *ℤ x)) dh
    → q ≡ floor_of (draught_at (water a) (load a) a.lbp x)
draught_is_sure a k bh sh dh x q led hx sure =
    let top = line_base a -ℤ (line_step a *ℤ x) in
    let is : Is top (line_divisor a) (draught_at (water a) (load a) a.lbp x)
    = rw (line_is a.draught a.mct a.lbp (trim_top a) a.lcf a.gap x) (draught_is a.draught a.gap (trim_top a) a.mct a.lcf x a.lbp (trim (water a) (load a)) (trim_is a.kg a.lcb a.x a.mct a.gap a.kg_positive a.mct_positive a.gap_positive) a.gap_positive a.lbp_positive) in
    let floor = is_floor (pos (2 ^ k)) bh sh dh (line_base a) (line_step a) (line_divisor a) x q led.is_base led.is_step led.is_divisor hx sure in
    floor_unique q (floor_of (top over line_divisor a)) (top over line_divisor a) is.0 floor (floor_is (top over line_divisor a) is.0) ∙ floor_same top (line_divisor a) _ is

-- a shift gives the number in units of a power of 2, rounded down
pub shift_is_floor : (z : ℤ) (k : ℕ) → IsInUnits (int_shr z k) (pos (2 ^ k)) z
shift_is_floor z k = by_unit z (2 ^ k) (pow_pos k) where
  by_unit : (z : ℤ) (m : ℕ) → 0 < m → IsInUnits (shr_z z m) (pos m) z
  by_unit (pos n) m h = let parts = int_div_euclid-parts (pos n) m h in record { low = omega (arith, signed_arith, parts.0); rest = omega (arith, signed_arith, parts.1) }
  by_unit (negsuc n) m h = let parts = int_div_euclid-parts (negsuc n) m h in record { low = omega (arith, signed_arith, parts.0); rest = omega (arith, signed_arith, parts.1) }
