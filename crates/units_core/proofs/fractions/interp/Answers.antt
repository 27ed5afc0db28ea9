use Rattle.std.proofs.Common.{◌≡◌, ◌*◌, ◌^◌, ◌≤◌, ◌+ℤ◌, ◌-ℤ◌, ◌*ℤ◌, ◌≤ℤ◌, ℤ, unsigned_abs, FitsSigned, to_z-of_z, arith}
use Rattle.std.specs.Int.{w128}
use Rattle.units_core.proofs.Signed.{signed_arith, one_part, product_within, difference_within, weighted_within, fits_within, sum_back, difference_back, product_back, product_fits, sum_fits}
use Rattle.units_core.proofs.fractions.interp.Goals as goal

-- what the arguments' sizes give
record Sizes (x x0 y0 x1 y1 : ℤ) : Type 0 where
  pub up_to : FitsSigned w128 (x1 -ℤ x)
  pub from : FitsSigned w128 (x -ℤ x0)
  pub whole : FitsSigned w128 (x1 -ℤ x0)
  pub left : FitsSigned w128 (y0 *ℤ (x1 -ℤ x))
  pub right : FitsSigned w128 (y1 *ℤ (x -ℤ x0))
  pub total : FitsSigned w128 ((y0 *ℤ (x1 -ℤ x)) +ℤ (y1 *ℤ (x -ℤ x0)))
  pub size : unsigned_abs ((y0 *ℤ (x1 -ℤ x)) +ℤ (y1 *ℤ (x -ℤ x0))) ≤ 10 ^ 18 * unsigned_abs (x1 -ℤ x0)

sizes : (x x0 y0 x1 y1 : ℤ) → x0 ≤ℤ x → x ≤ℤ x1 → unsigned_abs x0 ≤ 10 ^ 18 → unsigned_abs x1 ≤ 10 ^ 18 → unsigned_abs y0 ≤ 10 ^ 18 → unsigned_abs y1 ≤ 10 ^ 18 → Sizes x x0 y0 x1 y1
sizes x x0 y0 x1 y1 from to h0 h1 k0 k1 =
    let a : unsigned_abs (x1 -ℤ x) ≤ 2 * 10 ^ 18 = omega (arith, signed_arith, one_part (x1 -ℤ x), one_part x0, one_part x1) in
    let b : unsigned_abs (x -ℤ x0) ≤ 2 * 10 ^ 18 = omega (arith, signed_arith, one_part (x -ℤ x0), one_part x0, one_part x1) in
    let w : unsigned_abs (x1 -ℤ x0) ≤ 2 * 10 ^ 18 = difference_within x1 x0 (10 ^ 18) (10 ^ 18) h1 h0 in
    let whole : (x1 -ℤ x) +ℤ (x -ℤ x0) ≡ x1 -ℤ x0 = omega (arith, signed_arith) in
    let size = rw whole at (weighted_within y0 y1 (x1 -ℤ x) (x -ℤ x0) (10 ^ 18) k0 k1 (omega (arith, signed_arith)) (omega (arith, signed_arith))) in
    record {
      up_to = fits_within _ _ a (omega arith);
      from = fits_within _ _ b (omega arith);
      whole = fits_within _ _ w (omega arith);
      left = fits_within _ _ (product_within y0 (x1 -ℤ x) (10 ^ 18) (2 * 10 ^ 18) k0 a) (omega arith);
      right = fits_within _ _ (product_within y1 (x -ℤ x0) (10 ^ 18) (2 * 10 ^ 18) k1 b) (omega arith);
      total = fits_within _ (10 ^ 18 * (2 * 10 ^ 18)) (omega (arith, size)) (omega arith);
      size = size;
    }

pub overflow_mul-result : goal.overflow_mul-result
overflow_mul-result c =
    let s = sizes c.args.x c.args.x0 c.args.y0 c.args.x1 c.args.y1 c.requires.from c.requires.to c.requires.x0_small c.requires.x1_small c.requires.y0_small c.requires.y1_small in
    product_fits _ _ (to_z-of_z c.ranges.y0) (difference_back _ _ (to_z-of_z c.ranges.x1) (to_z-of_z c.ranges.x) s.up_to) s.left

pub overflow_mul-result-2 : goal.overflow_mul-result-2
overflow_mul-result-2 c =
    let s = sizes c.args.x c.args.x0 c.args.y0 c.args.x1 c.args.y1 c.requires.from c.requires.to c.requires.x0_small c.requires.x1_small c.requires.y0_small c.requires.y1_small in
    product_fits _ _ (to_z-of_z c.ranges.y1) (difference_back _ _ (to_z-of_z c.ranges.x) (to_z-of_z c.ranges.x0) s.from) s.right

pub overflow_add-result : goal.overflow_add-result
overflow_add-result c =
    let s = sizes c.args.x c.args.x0 c.args.y0 c.args.x1 c.args.y1 c.requires.from c.requires.to c.requires.x0_small c.requires.x1_small c.requires.y0_small c.requires.y1_small in
    let left = product_back c.args.y0 (c.args.x1 -ℤ c.args.x) (to_z-of_z c.ranges.y0) (difference_back _ _ (to_z-of_z c.ranges.x1) (to_z-of_z c.ranges.x) s.up_to) s.left in
    let right = product_back c.args.y1 (c.args.x -ℤ c.args.x0) (to_z-of_z c.ranges.y1) (difference_back _ _ (to_z-of_z c.ranges.x) (to_z-of_z c.ranges.x0) s.from) s.right in
    sum_fits _ _ left right s.total

-- the code's numerator and divisor are those of the line
numerator : goal.returns-clause-num
numerator c =
    let a = c.args in let r = c.requires in
    let s = sizes a.x a.x0 a.y0 a.x1 a.y1 r.from r.to r.x0_small r.x1_small r.y0_small r.y1_small in
    let left = product_back a.y0 (a.x1 -ℤ a.x) (to_z-of_z c.ranges.y0) (difference_back _ _ (to_z-of_z c.ranges.x1) (to_z-of_z c.ranges.x) s.up_to) s.left in
    let right = product_back a.y1 (a.x -ℤ a.x0) (to_z-of_z c.ranges.y1) (difference_back _ _ (to_z-of_z c.ranges.x) (to_z-of_z c.ranges.x0) s.from) s.right in
    sum_back _ _ left right s.total

divisor : goal.returns-clause-den
divisor c =
    let a = c.args in let r = c.requires in
    let s = sizes a.x a.x0 a.y0 a.x1 a.y1 r.from r.to r.x0_small r.x1_small r.y0_small r.y1_small in
    difference_back a.x1 a.x0 (to_z-of_z c.ranges.x1) (to_z-of_z c.ranges.x0) s.whole

pub returns-clause-num : goal.returns-clause-num
returns-clause-num c = numerator c

pub returns-clause-den : goal.returns-clause-den
returns-clause-den c = divisor c

pub returns-clause-line : goal.returns-clause-line
returns-clause-line c = simp (numerator c, divisor c)

pub returns-clause-size : goal.returns-clause-size
returns-clause-size c = λ m h k.
    let a = c.args in
    let whole : (a.x1 -ℤ a.x) +ℤ (a.x -ℤ a.x0) ≡ a.x1 -ℤ a.x0 = omega (arith, signed_arith) in
    rw (numerator c, ← whole) (weighted_within a.y0 a.y1 (a.x1 -ℤ a.x) (a.x -ℤ a.x0) m h k (omega (arith, signed_arith)) (omega (arith, signed_arith)))
