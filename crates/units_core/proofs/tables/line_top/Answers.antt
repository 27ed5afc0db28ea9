use Rattle.std.proofs.Common.{◌*◌, ◌^◌, ◌≤◌, ℤ, ◌+ℤ◌, ◌-ℤ◌, ◌*ℤ◌, ◌≤ℤ◌, unsigned_abs, FitsSigned, to_z-of_z, arith}
use Rattle.std.specs.Int.{w64}
use Rattle.std.proofs.lemmas.Int.{fits_signed_from_abs}
use Rattle.units_core.proofs.Signed.{signed_arith, one_part, product_within, sum_within}
use Rattle.units_core.proofs.tables.line_top.Goals as goal

-- each term fits 64 bits
record Sizes (x x0 y0 x1 y1 : ℤ) : Type 0 where
  pub up_to : FitsSigned w64 (x1 -ℤ x)
  pub from : FitsSigned w64 (x -ℤ x0)
  pub left : FitsSigned w64 (y0 *ℤ (x1 -ℤ x))
  pub right : FitsSigned w64 (y1 *ℤ (x -ℤ x0))
  pub total : FitsSigned w64 ((y0 *ℤ (x1 -ℤ x)) +ℤ (y1 *ℤ (x -ℤ x0)))

sizes : (x x0 y0 x1 y1 : ℤ) → x0 ≤ℤ x → x ≤ℤ x1 → unsigned_abs x0 ≤ 10 ^ 9 → unsigned_abs x1 ≤ 10 ^ 9 → unsigned_abs y0 ≤ 10 ^ 9 → unsigned_abs y1 ≤ 10 ^ 9 → Sizes x x0 y0 x1 y1
sizes x x0 y0 x1 y1 from to h0 h1 k0 k1 =
    let a : unsigned_abs (x1 -ℤ x) ≤ 2 * 10 ^ 9 = omega (arith, signed_arith, one_part (x1 -ℤ x), one_part x0, one_part x1) in
    let b : unsigned_abs (x -ℤ x0) ≤ 2 * 10 ^ 9 = omega (arith, signed_arith, one_part (x -ℤ x0), one_part x0, one_part x1) in
    let p = product_within y0 (x1 -ℤ x) (10 ^ 9) (2 * 10 ^ 9) k0 a in
    let q = product_within y1 (x -ℤ x0) (10 ^ 9) (2 * 10 ^ 9) k1 b in
    let t = sum_within (y0 *ℤ (x1 -ℤ x)) (y1 *ℤ (x -ℤ x0)) _ _ p q in
    record {
      up_to = fits_signed_from_abs w64 _ (omega (arith, a));
      from = fits_signed_from_abs w64 _ (omega (arith, b));
      left = fits_signed_from_abs w64 _ (omega (arith, p));
      right = fits_signed_from_abs w64 _ (omega (arith, q));
      total = fits_signed_from_abs w64 _ (omega (arith, t));
    }

pub overflow_mul-result : goal.overflow_mul-result
overflow_mul-result c =
    let s = sizes c.args.x c.args.x0 c.args.y0 c.args.x1 c.args.y1 c.requires.from c.requires.to c.requires.x0_small c.requires.x1_small c.requires.y0_small c.requires.y1_small in
    simp (to_z-of_z c.ranges.x, to_z-of_z c.ranges.x1, to_z-of_z c.ranges.y0, to_z-of_z s.up_to) s.left

pub overflow_mul-result-2 : goal.overflow_mul-result-2
overflow_mul-result-2 c =
    let s = sizes c.args.x c.args.x0 c.args.y0 c.args.x1 c.args.y1 c.requires.from c.requires.to c.requires.x0_small c.requires.x1_small c.requires.y0_small c.requires.y1_small in
    simp (to_z-of_z c.ranges.x, to_z-of_z c.ranges.x0, to_z-of_z c.ranges.y1, to_z-of_z s.from) s.right

pub overflow_add-result : goal.overflow_add-result
overflow_add-result c =
    let s = sizes c.args.x c.args.x0 c.args.y0 c.args.x1 c.args.y1 c.requires.from c.requires.to c.requires.x0_small c.requires.x1_small c.requires.y0_small c.requires.y1_small in
    simp (to_z-of_z c.ranges.x, to_z-of_z c.ranges.x0, to_z-of_z c.ranges.x1, to_z-of_z c.ranges.y0, to_z-of_z c.ranges.y1, to_z-of_z s.up_to, to_z-of_z s.from, to_z-of_z s.left, to_z-of_z s.right) s.total

pub returns : goal.returns
returns c =
    let s = sizes c.args.x c.args.x0 c.args.y0 c.args.x1 c.args.y1 c.requires.from c.requires.to c.requires.x0_small c.requires.x1_small c.requires.y0_small c.requires.y1_small in
    simp (to_z-of_z c.ranges.x, to_z-of_z c.ranges.x0, to_z-of_z c.ranges.x1, to_z-of_z c.ranges.y0, to_z-of_z c.ranges.y1, to_z-of_z s.up_to, to_z-of_z s.from, to_z-of_z s.left, to_z-of_z s.right, to_z-of_z s.total)
