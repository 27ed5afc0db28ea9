use Rattle.std.proofs.Common.{◌≡◌, ℤ, pos, ◌^◌, ◌≤◌, ◌*ℤ◌, unsigned_abs, FitsSigned, to_z-of_z, arith}
use Rattle.std.specs.Prelude.{int_le}
use Rattle.std.specs.Int.{w128}
use Rattle.units_core.proofs.Signed.{signed_arith, product_within, fits_within}
use Rattle.units_core.specs.Ratio.{Ratio, whole, Is}
use Rattle.units_core.proofs.Ring.{diff_of, diff_same, differences, times_one}
use Rattle.units_core.proofs.Ratios.{is_whole, is_product, is_quotient}
use Rattle.righting.specs.Levers.{area_of}
use Rattle.units_core.specs.Ratio.{is_at_least}
use Rattle.units_core.proofs.Decisions.{at_least_same}
use Rattle.righting.proofs.areas.area_holds.Goals as goal

area_is : (n d : ℤ) (r : Ratio) → Is n d r → Is ((pos 5000 *ℤ n) *ℤ pos 1) ((pos 1 *ℤ d) *ℤ pos 3) (area_of r)
area_is n d r p = is_quotient _ _ (pos 3) (pos 1) _ (whole (pos 3)) (is_product (pos 5000) (pos 1) n d (whole (pos 5000)) r (is_whole (pos 5000)) p) (is_whole (pos 3)) (omega (arith, signed_arith))

law : (k d : ℤ) → k *ℤ ((pos 1 *ℤ d) *ℤ pos 3) ≡ (pos 3 *ℤ k) *ℤ d
law k d = rw (diff_of k, diff_of d, diff_of (pos 1), diff_of (pos 3)) (simp differences (diff_same _ _ _ _ (omega arith)))

decides : (n d k : ℤ) (r : Ratio) → Is n d r → int_le ((pos 3 *ℤ k) *ℤ d) (pos 5000 *ℤ n) ≡ is_at_least (area_of r) k
decides n d k r p = rw (law k d, times_one (pos 5000 *ℤ n)) at (at_least_same ((pos 5000 *ℤ n) *ℤ pos 1) ((pos 1 *ℤ d) *ℤ pos 3) (area_of r) k (area_is n d r p))

record Sizes (n d k : ℤ) : Type 0 where
  pub num : FitsSigned w128 n
  pub den : FitsSigned w128 d
  pub left : FitsSigned w128 (pos 5000 *ℤ n)
  pub three : FitsSigned w128 (pos 3 *ℤ k)
  pub right : FitsSigned w128 ((pos 3 *ℤ k) *ℤ d)

sizes : (n d k : ℤ) → unsigned_abs n ≤ 10 ^ 32 → unsigned_abs d ≤ 10 ^ 23 → unsigned_abs k ≤ 10 ^ 7 → Sizes n d k
sizes n d k hn hd hk =
    let left = product_within (pos 5000) n 5000 _ (omega arith) hn in
    let three = product_within (pos 3) k 3 _ (omega arith) hk in
    let right = product_within (pos 3 *ℤ k) d _ _ three hd in
    record {
      num = fits_within _ _ hn (omega arith);
      den = fits_within _ _ hd (omega arith);
      left = fits_within _ _ left (omega arith);
      three = fits_within _ _ three (omega arith);
      right = fits_within _ _ right (omega arith);
    }

pub returns : goal.returns
returns c =
    λ r p.
    let s = sizes c.args.sum.num c.args.sum.den c.args.limit c.requires.sum c.requires.den c.requires.limit in
    simp (to_z-of_z s.num, to_z-of_z s.den, to_z-of_z c.ranges.limit, to_z-of_z s.left, to_z-of_z s.three, to_z-of_z s.right) (decides c.args.sum.num c.args.sum.den c.args.limit r p)
