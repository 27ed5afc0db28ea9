-- An area read on a line whose slope is rounded up is that on the line through two areas, rounded down.
use Rattle.std.proofs.Common.{rules, arith, ◌≡◌, ◌∙◌, ℕ, ◌+◌, ◌*◌, ◌^◌, ◌<◌, ◌≤◌, ℤ, pos, ◌+ℤ◌, ◌-ℤ◌, ◌*ℤ◌, ◌≤ℤ◌, ◌<ℤ◌, unsigned_abs, List, length, Some, inr, sym, subst}
use Rattle.std.specs.Int.{int_div_euclid}
use Rattle.std.specs.Prelude.{slice_index_or}
use Rattle.std.proofs.lemmas.Int.{by_lt_z, unsigned_abs-mul}
use Rattle.std.proofs.lemmas.List.FromFn.{get_or-map-range_with_len, length-map-range_with_len}
use Rattle.std.proofs.Math.Nat.{mul-le-mul_left}
use Rattle.units_core.specs.Interpolation.{at, interval, Encloses}
use Rattle.units_core.proofs.Intervals.{in_order, interval_is}
use Rattle.units_core.specs.Ratio.{◌over◌, floor_of}
use Rattle.units_core.proofs.Decisions.{floor_is, quotient_is}
use Rattle.units_core.proofs.Order.{cancel_order, times_order, times_strict}
use Rattle.units_core.proofs.Ring.{diff_of, diff_same, differences, one_times}
use Rattle.units_core.proofs.Signed.{signed_arith, distributes, one_part, product_within}
use borrow.Author.Differences.{same_in}
use Rattle.ship_tables.specs.Curves.{curve, curve_at}
use Rattle.ship_tables.specs.Record.{CurveTable, IsBonjeanTable, IsCurve}
use Rattle.ship_profile.specs.Sections.{area_line}
use Rattle.ship_profile.specs.declared.sections.AreaLine.{AreaLine}
use Rattle.strength.specs.Rows.{IsRowOf}

-- with y0 and y1 at x0 and x1, s for the slope, b for the distance and e for what s b has too much, in p parts
level_of : (y0 s b a p : ℤ) → ((y0 *ℤ p) +ℤ (s *ℤ a)) *ℤ b ≡ ((y0 *ℤ p) *ℤ b) +ℤ ((s *ℤ b) *ℤ a)
level_of y0 s b a p = rw (diff_of y0, diff_of s, diff_of b, diff_of a, diff_of p) (simp differences (diff_same _ _ _ _ (omega arith)))

level_as : (y0 y1 x0 x x1 e p : ℤ) → ((y0 *ℤ p) *ℤ (x1 -ℤ x0)) +ℤ ((((y1 -ℤ y0) *ℤ p) +ℤ e) *ℤ (x -ℤ x0))
    ≡ (((y0 *ℤ (x1 -ℤ x)) +ℤ (y1 *ℤ (x -ℤ x0))) *ℤ p) +ℤ (e *ℤ (x -ℤ x0))
level_as y0 y1 x0 x x1 e p = rw (diff_of y0, diff_of y1, diff_of x0, diff_of x, diff_of x1, diff_of e, diff_of p) (simp differences (diff_same _ _ _ _ (omega arith)))

level : (y0 y1 x0 x x1 s e p : ℤ) → s *ℤ (x1 -ℤ x0) ≡ ((y1 -ℤ y0) *ℤ p) +ℤ e → ((y0 *ℤ p) +ℤ (s *ℤ (x -ℤ x0))) *ℤ (x1 -ℤ x0)
    ≡ (((y0 *ℤ (x1 -ℤ x)) +ℤ (y1 *ℤ (x -ℤ x0))) *ℤ p) +ℤ (e *ℤ (x -ℤ x0))
level y0 y1 x0 x x1 s e p is =
    level_of y0 s (x1 -ℤ x0) (x -ℤ x0) p ∙ ((λ i. ((y0 *ℤ p) *ℤ (x1 -ℤ x0)) +ℤ (is i *ℤ (x -ℤ x0))) ∙ level_as y0 y1 x0 x x1 e p)

turn : (q p b : ℤ) → (q *ℤ p) *ℤ b ≡ (q *ℤ b) *ℤ p
turn q p b = rw (diff_of q, diff_of p, diff_of b) (simp differences (diff_same _ _ _ _ (omega arith)))

next_times : (q b : ℤ) → (q +ℤ pos 1) *ℤ b ≡ (q *ℤ b) +ℤ b
next_times q b = distributes q (pos 1) b ∙ (λ i. (q *ℤ b) +ℤ one_times b i)

turn_next : (q p b : ℤ) → ((q +ℤ pos 1) *ℤ p) *ℤ b ≡ ((q *ℤ b) +ℤ b) *ℤ p
turn_next q p b = turn (q +ℤ pos 1) p b ∙ (λ i. next_times q b i *ℤ p)

nought_times : (a : ℤ) → pos 0 *ℤ a ≡ pos 0
nought_times a = same_in _ _ (omega (arith, signed_arith))

-- the slope, which is rounded up
record IsRoundedUp (s rise b : ℤ) : Type 0 where
  pub low : pos 0 ≤ℤ ((s *ℤ b) -ℤ rise)
  pub high : ((s *ℤ b) -ℤ rise) <ℤ b

rounded_up : (rise b : ℤ) → pos 1 ≤ℤ b → IsRoundedUp (int_div_euclid (rise +ℤ (b -ℤ pos 1)) b) rise b
rounded_up rise b some =
    let is = floor_is ((rise +ℤ (b -ℤ pos 1)) over b) some in
    let s = int_div_euclid (rise +ℤ (b -ℤ pos 1)) b in
    let next : (s +ℤ pos 1) *ℤ b ≡ (s *ℤ b) +ℤ b = next_times s b in
    let below : (rise +ℤ (b -ℤ pos 1)) <ℤ ((s *ℤ b) +ℤ b) = rw (← next) is.1 in
    record { low = omega (arith, signed_arith, below); high = omega (arith, signed_arith, is.0) }

-- what is read: it fits 64 bits, and is the floor
pub record Reads (start slope y0 y1 x0 x x1 : ℤ) : Type 0 where
  pub rise : unsigned_abs (slope *ℤ (x -ℤ x0)) ≤ 8 * 10 ^ 18
  pub sum : unsigned_abs (start +ℤ (slope *ℤ (x -ℤ x0))) ≤ 8 * 10 ^ 18
  pub value : int_div_euclid (start +ℤ (slope *ℤ (x -ℤ x0))) (pos (2 ^ 36)) ≡ int_div_euclid ((y0 *ℤ (x1 -ℤ x)) +ℤ (y1 *ℤ (x -ℤ x0))) (x1 -ℤ x0)
  pub within : unsigned_abs (int_div_euclid (start +ℤ (slope *ℤ (x -ℤ x0))) (pos (2 ^ 36))) ≤ 10 ^ 8

-- the numerator of a reading of numbers from 0 to 10^8
record IsTop (n b : ℤ) : Type 0 where
  pub low : pos 0 ≤ℤ n
  pub high : n ≤ℤ (b *ℤ pos 100000000)

top_is : (y0 y1 a d : ℤ) → pos 0 ≤ℤ y0 → y0 ≤ℤ pos 100000000 → pos 0 ≤ℤ y1 → y1 ≤ℤ pos 100000000 → pos 0 ≤ℤ a → pos 0 ≤ℤ d → IsTop ((y0 *ℤ a) +ℤ (y1 *ℤ d)) (a +ℤ d)
top_is y0 y1 a d l0 h0 l1 h1 la ld =
    let p0 = times_order (pos 0) y0 a la l0 in
    let p1 = times_order (pos 0) y1 d ld l1 in
    let q0 = times_order y0 (pos 100000000) a la h0 in
    let q1 = times_order y1 (pos 100000000) d ld h1 in
    record {
      low = omega (arith, signed_arith, p0, p1, nought_times a, nought_times d);
      high = omega (arith, signed_arith, q0, q1);
    }

-- by the numerator n, the whole m that is divided by 2^36, and what the slope adds too much
by_parts : (m n b r q : ℤ) → pos 1 ≤ℤ b → m *ℤ b ≡ (n *ℤ pos (2 ^ 36)) +ℤ r → pos 0 ≤ℤ r → r <ℤ pos (2 ^ 36) → (q *ℤ pos (2 ^ 36)) ≤ℤ m → m <ℤ ((q +ℤ pos 1) *ℤ pos (2 ^ 36))
    → (pos 0 ≤ℤ (n -ℤ (q *ℤ b))) × ((n -ℤ (q *ℤ b)) <ℤ b)
by_parts m n b r q some is low high from to =
    let a = times_order (q *ℤ pos (2 ^ 36)) m b (omega (arith, signed_arith, some)) from in
    let z = times_strict m ((q +ℤ pos 1) *ℤ pos (2 ^ 36)) b some to in
    let below : ((q *ℤ b) *ℤ pos (2 ^ 36)) ≤ℤ ((n *ℤ pos (2 ^ 36)) +ℤ r) = rw (← turn q (pos (2 ^ 36)) b, ← is) a in
    let above : ((n *ℤ pos (2 ^ 36)) +ℤ r) <ℤ (((q *ℤ b) +ℤ b) *ℤ pos (2 ^ 36)) = rw (← turn_next q (pos (2 ^ 36)) b, ← is) z in
    (omega (arith, signed_arith, below, low, high), omega (arith, signed_arith, above, low))

-- the quotient of a number from 0 to 10^8 b
small : (n b q : ℤ) → pos 1 ≤ℤ b → IsTop n b → pos 0 ≤ℤ (n -ℤ (q *ℤ b)) → (n -ℤ (q *ℤ b)) <ℤ b → unsigned_abs q ≤ 10 ^ 8
small n b q some is low high =
    let most : q ≤ℤ pos 100000000 = cancel_order q (pos 100000000) b some (omega (arith, signed_arith, low, is.high)) in
    let least : pos 0 ≤ℤ q = by_lt_z q (pos 0)
    (λ less. let up = times_order q (pos 0 -ℤ pos 1) b (omega (arith, signed_arith, some)) (omega (arith, signed_arith, less)) in absurd (omega (arith, signed_arith, up, high, is.low)))
    (λ le. le) in
    omega (arith, signed_arith, one_part q, most, least)

pub reads : (y0 y1 x0 x x1 : ℤ) → pos 0 ≤ℤ y0 → unsigned_abs y0 ≤ 10 ^ 8 → pos 0 ≤ℤ y1 → unsigned_abs y1 ≤ 10 ^ 8 → x0 <ℤ x1 → unsigned_abs x0 ≤ 10 ^ 5 → unsigned_abs x1 ≤ 10 ^ 5 → x0 ≤ℤ x → x ≤ℤ x1
    → Reads (y0 *ℤ pos (2 ^ 36)) (int_div_euclid (((y1 -ℤ y0) *ℤ pos (2 ^ 36)) +ℤ ((x1 -ℤ x0) -ℤ pos 1)) (x1 -ℤ x0)) y0 y1 x0 x x1
reads y0 y1 x0 x x1 l0 w0 l1 w1 rises v0 v1 from to =
    let b = x1 -ℤ x0 in
    let a = x -ℤ x0 in
    let p = pos (2 ^ 36) in
    let s = int_div_euclid (((y1 -ℤ y0) *ℤ p) +ℤ (b -ℤ pos 1)) b in
    let m = (y0 *ℤ p) +ℤ (s *ℤ a) in
    let n = (y0 *ℤ (x1 -ℤ x)) +ℤ (y1 *ℤ a) in
    let q = int_div_euclid m p in
    let some : pos 1 ≤ℤ b = omega (arith, signed_arith, rises) in
    let few : b ≤ℤ pos 200000 = omega (arith, signed_arith, one_part x0, one_part x1, v0, v1) in
    let la : pos 0 ≤ℤ a = omega (arith, signed_arith, from) in
    let ha : a ≤ℤ b = omega (arith, signed_arith, to) in
    let lu : pos 0 ≤ℤ (x1 -ℤ x) = omega (arith, signed_arith, to) in
    let up = rounded_up ((y1 -ℤ y0) *ℤ p) b some in
    let e = (s *ℤ b) -ℤ ((y1 -ℤ y0) *ℤ p) in
    let whole : s *ℤ b ≡ ((y1 -ℤ y0) *ℤ p) +ℤ e = same_in _ _ (omega (arith, signed_arith)) in
    let is : m *ℤ b ≡ (n *ℤ p) +ℤ (e *ℤ a) = level y0 y1 x0 x x1 s e p whole in
    let r0 = times_order (pos 0) e a la up.low in
    let rest_low : pos 0 ≤ℤ (e *ℤ a) = rw (nought_times a) at r0 in
    let size : unsigned_abs (e *ℤ a) ≤ 200000 * 200000 = product_within e a 200000 200000 (omega (arith, signed_arith, one_part e, up.low, up.high, few)) (omega (arith, signed_arith, one_part a, la, ha, few)) in
    let rest_high : (e *ℤ a) <ℤ p = omega (arith, signed_arith, one_part (e *ℤ a), size) in
    let floor = floor_is (m over p) (omega (arith, signed_arith)) in
    let parts = by_parts m n b (e *ℤ a) q some is rest_low rest_high floor.0 floor.1 in
    let span : (x1 -ℤ x) +ℤ a ≡ b = same_in _ _ (omega (arith, signed_arith)) in
    let top : IsTop n b = subst (λ z. IsTop n z) span (top_is y0 y1 (x1 -ℤ x) a l0 (omega (arith, signed_arith, one_part y0, w0)) l1 (omega (arith, signed_arith, one_part y1, w1)) lu la) in
    let m_low : pos 0 ≤ℤ m = cancel_order (pos 0) m b some (rw (nought_times b) (rw is (omega (arith, signed_arith, top.low, rest_low)))) in
    let m_high : m ≤ℤ pos (8 * 10 ^ 18) = cancel_order m (pos (8 * 10 ^ 18)) b some (rw is (omega (arith, signed_arith, top.high, rest_high, some))) in
    let sb : unsigned_abs (s *ℤ b) ≤ 8 * 10 ^ 18 = (let rise : unsigned_abs (y1 -ℤ y0) ≤ 10 ^ 8 = omega (arith, signed_arith, one_part y0, one_part y1, one_part (y1 -ℤ y0), l0, w0, l1, w1) in
    let parts_of = product_within (y1 -ℤ y0) p (10 ^ 8) (2 ^ 36) rise (omega arith) in
    omega (arith, signed_arith, one_part (s *ℤ b), one_part ((y1 -ℤ y0) *ℤ p), parts_of, up.low, up.high, few)) in
    let shorter : unsigned_abs a ≤ unsigned_abs b = omega (arith, signed_arith, one_part a, one_part b, la, ha) in
    let sa : unsigned_abs (s *ℤ a) ≤ unsigned_abs (s *ℤ b) = simp unsigned_abs-mul (mul-le-mul_left (unsigned_abs s) shorter) in
    record {
      rise = omega (arith, sa, sb);
      sum = omega (arith, signed_arith, one_part m, m_low, m_high);
      value = quotient_is n q b some parts.0 parts.1;
      within = small n b q some top parts.0 parts.1;
    }

-- the same of a row of a table
pub record ReadsIn (t : CurveTable) (k n : ℕ) (lower x : ℤ) (l : AreaLine) : Type 0 where
  pub rise : unsigned_abs (l.slope *ℤ (x -ℤ lower)) ≤ 8 * 10 ^ 18
  pub sum : unsigned_abs (l.start +ℤ (l.slope *ℤ (x -ℤ lower))) ≤ 8 * 10 ^ 18
  pub value : int_div_euclid (l.start +ℤ (l.slope *ℤ (x -ℤ lower))) (pos (2 ^ 36)) ≡ floor_of (curve_at t x k n)
  pub within : unsigned_abs (int_div_euclid (l.start +ℤ (l.slope *ℤ (x -ℤ lower))) (pos (2 ^ 36))) ≤ 10 ^ 8

-- a draught above the lower end of a row, and not above the upper one, lies in it
pub in_row : (t : CurveTable) (n : ℕ) (lower upper x : ℤ) (lines : List AreaLine) → IsBonjeanTable t → IsRowOf t n lower upper lines → lower <ℤ x → x ≤ℤ upper → Encloses t.arguments n x × (interval t.arguments x ≡ Some n)
in_row t n lower upper x lines sound row above most =
    let past : at t.arguments n <ℤ x = rw (← row.is_lower) above in
    let to : x ≤ℤ at t.arguments (n + 1) = rw (← row.is_upper) most in
    let inside = row.inside in
    let here : 0 + n ≡ n = omega arith in
    let order = rw here at (in_order t.arguments sound.rises 0 n (omega arith)) in
    (record { inside = inside; from = omega (arith, signed_arith, past); to = to }, interval_is t.arguments x n sound.rises inside (omega (arith, signed_arith, order, past)) to (inr past))

pub has_line : (t : CurveTable) (k n : ℕ) (lower upper : ℤ) (lines : List AreaLine) → k < length t.columns → IsRowOf t n lower upper lines → k < length lines
has_line t k n lower upper lines there row = rw row.are_lines (rw (length-map-range_with_len (area_line t n) 0 (length t.columns)) there)

pub reads_in : (t : CurveTable) (k n : ℕ) (lower upper x : ℤ) (lines : List AreaLine) (d : AreaLine) → IsBonjeanTable t → k < length t.columns → IsRowOf t n lower upper lines → Encloses t.arguments n x
    → ReadsIn t k n lower x (slice_index_or lines k d)
reads_in t k n lower upper x lines d sound there row here =
    let column : IsCurve (length t.arguments) (10 ^ 8) (curve t k) = search rules in
    let inside = row.inside in
    let rows = column.rows in
    let read = reads (at (curve t k) n) (at (curve t k) (n + 1)) (at t.arguments n) x (at t.arguments (n + 1)) (column.least n (omega (arith, inside, rows))) (column.within n) (column.least (n + 1) (omega (arith, inside, rows))) (column.within (n + 1))
    (sound.rises n inside) (sound.within n) (sound.within (n + 1)) here.from here.to in
    let line : area_line t n k ≡ slice_index_or lines k d = sym (rw row.are_lines (get_or-map-range_with_len (area_line t n) 0 (length t.columns) k k d there (omega arith))) in
    subst (λ (l : AreaLine). ReadsIn t k n lower x l) line (rw row.is_lower (record { rise = read.rise; sum = read.sum; value = read.value; within = read.within }))
