-- The value on a line between two rows, and its floor, are between the values of the rows.
use Rattle.std.proofs.Common.{◌≡◌, ℤ, pos, neg_ℤ, ◌+ℤ◌, ◌-ℤ◌, ◌*ℤ◌, ◌≤ℤ◌, ◌<ℤ◌, ◌≤◌, ◌<◌, ℕ, ◌+◌, unsigned_abs, length, List, arith}
use Rattle.std.proofs.lemmas.Int.{ints, by_lt_z}
use Rattle.units_core.proofs.Order.{times_order, cancel_order}
use Rattle.units_core.proofs.Ring.{diff_of, diff_same, differences}
use Rattle.units_core.proofs.Signed.{signed_arith}
use Rattle.units_core.specs.Interpolation.{at, reading, IsWithin}
use Rattle.units_core.specs.Ratio.{IsFloor, ◌over◌}
use Rattle.ship_tables.specs.Record.{IsAtLeast}

module _ (x x0 x1 y0 y1 : ℤ) (low high q : ℤ) (rises : x0 <ℤ x1) (from : x0 ≤ℤ x) (to : x ≤ℤ x1)
    (floor : IsFloor q (((y0 *ℤ (x1 -ℤ x)) +ℤ (y1 *ℤ (x -ℤ x0))) over (x1 -ℤ x0))) where
  parts : (l x0 x x1 : ℤ) → l *ℤ (x1 -ℤ x0) ≡ (l *ℤ (x1 -ℤ x)) +ℤ (l *ℤ (x -ℤ x0))
  parts l x0 x x1 = rw (diff_of l, diff_of x0, diff_of x, diff_of x1) (simp differences (diff_same _ _ _ _ (omega arith)))

  gap : pos 1 ≤ℤ (x1 -ℤ x0)
  gap = omega (arith, signed_arith)

  before : pos 0 ≤ℤ (x -ℤ x0)
  before = omega (arith, signed_arith)

  after : pos 0 ≤ℤ (x1 -ℤ x)
  after = omega (arith, signed_arith)

  pub floor-above : low ≤ℤ y0 → low ≤ℤ y1 → low ≤ℤ q
  floor-above a b =
      let first = times_order low y0 (x1 -ℤ x) after a in
      let second = times_order low y1 (x -ℤ x0) before b in
      let sum : (low *ℤ (x1 -ℤ x0)) ≤ℤ ((y0 *ℤ (x1 -ℤ x)) +ℤ (y1 *ℤ (x -ℤ x0))) = rw (parts low x0 x x1) (omega (arith, signed_arith, first, second)) in
      by_lt_z q low
      (λ less.
      let next : (q +ℤ pos 1) ≤ℤ low = omega (arith, signed_arith, less) in
      let beyond = times_order (q +ℤ pos 1) low (x1 -ℤ x0) (omega (arith, signed_arith, gap)) next in
      absurd (omega (arith, signed_arith, beyond, sum, floor.1)))
      (λ le. le)

  pub floor-below : y0 ≤ℤ high → y1 ≤ℤ high → q ≤ℤ high
  floor-below a b =
      let first = times_order y0 high (x1 -ℤ x) after a in
      let second = times_order y1 high (x -ℤ x0) before b in
      let sum : ((y0 *ℤ (x1 -ℤ x)) +ℤ (y1 *ℤ (x -ℤ x0))) ≤ℤ (high *ℤ (x1 -ℤ x0)) = rw (parts high x0 x x1) (omega (arith, signed_arith, first, second)) in
      cancel_order q high (x1 -ℤ x0) gap (omega (arith, signed_arith, sum, floor.0))

-- by size
abs-low : (z : ℤ) (m : ℕ) → unsigned_abs z ≤ m → neg_ℤ (pos m) ≤ℤ z
abs-low z m h = omega (arith, ints)

abs-high : (z : ℤ) (m : ℕ) → unsigned_abs z ≤ m → z ≤ℤ pos m
abs-high z m h = omega (arith, ints)

abs-both : (z : ℤ) (m : ℕ) → neg_ℤ (pos m) ≤ℤ z → z ≤ℤ pos m → unsigned_abs z ≤ m
abs-both z m h k = omega (arith, ints)

module _ (xs ys : List ℤ) (i : ℕ) (x q : ℤ) (rises : at xs i <ℤ at xs (i + 1)) (from : at xs i ≤ℤ x) (to : x ≤ℤ at xs (i + 1)) (floor : IsFloor q (reading xs ys i x)) where
  pub reading-size : (m : ℕ) → IsWithin m ys → unsigned_abs q ≤ m
  reading-size m h =
      abs-both q m
      (floor-above x (at xs i) (at xs (i + 1)) (at ys i) (at ys (i + 1)) (neg_ℤ (pos m)) (pos m) q rises from to floor (abs-low (at ys i) m (h i)) (abs-low (at ys (i + 1)) m (h (i + 1))))
      (floor-below x (at xs i) (at xs (i + 1)) (at ys i) (at ys (i + 1)) (neg_ℤ (pos m)) (pos m) q rises from to floor (abs-high (at ys i) m (h i)) (abs-high (at ys (i + 1)) m (h (i + 1))))

  pub reading-least : i + 1 < length ys → IsAtLeast (pos 0) ys → pos 0 ≤ℤ q
  reading-least inside h = floor-above x (at xs i) (at xs (i + 1)) (at ys i) (at ys (i + 1)) (pos 0) (pos 0) q rises from to floor (h i (omega arith)) (h (i + 1) inside)
