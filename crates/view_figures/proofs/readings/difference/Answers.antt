use Rattle.std.proofs.Common.{rules, ◌+◌, ◌*◌, ◌^◌, ◌≤◌, ℤ, pos, ◌-ℤ◌, ◌*ℤ◌, ◌≤ℤ◌, unsigned_abs, FitsSigned, to_z-of_z, arith}
use Rattle.std.specs.Int.{w128}
use Rattle.units_core.proofs.Ratios.{is_difference}
use Rattle.units_core.proofs.Signed.{exact, difference_within, fits_within, product_positive}
use Rattle.view_figures.proofs.readings.difference.Goals as goal

record Sizes (n d m e : ℤ) : Type 0 where
  pub left : FitsSigned w128 (n *ℤ e)
  pub right : FitsSigned w128 (m *ℤ d)
  pub top : FitsSigned w128 ((n *ℤ e) -ℤ (m *ℤ d))
  pub bottom : FitsSigned w128 (d *ℤ e)
  pub positive : pos 1 ≤ℤ (d *ℤ e)

sizes : (n d m e : ℤ) → pos 1 ≤ℤ d → pos 1 ≤ℤ e → unsigned_abs (n *ℤ e) + unsigned_abs (m *ℤ d) ≤ 11 * 10 ^ 37 → unsigned_abs (d *ℤ e) ≤ 10 ^ 38 → Sizes n d m e
sizes n d m e p q h k =
    let left : unsigned_abs (n *ℤ e) ≤ 11 * 10 ^ 37 = omega (arith, h) in
    let right : unsigned_abs (m *ℤ d) ≤ 11 * 10 ^ 37 = omega (arith, h) in
    let both = difference_within (n *ℤ e) (m *ℤ d) (unsigned_abs (n *ℤ e)) (unsigned_abs (m *ℤ d)) (omega arith) (omega arith) in
    let top : unsigned_abs ((n *ℤ e) -ℤ (m *ℤ d)) ≤ 11 * 10 ^ 37 = omega (arith, h, both) in
    record {
      left = fits_within _ _ left (omega arith);
      right = fits_within _ _ right (omega arith);
      top = fits_within _ _ top (omega arith);
      bottom = fits_within _ _ k (omega arith);
      positive = product_positive _ _ p q;
    }

pub overflow_sub-result : goal.overflow_sub-result
overflow_sub-result c = let s = sizes c.args.one.num c.args.one.den c.args.other.num c.args.other.den c.args.one.positive c.args.other.positive c.requires.sizes c.requires.dens in search (rules, exact)

pub overflow_mul-result : goal.overflow_mul-result
overflow_mul-result c = let s = sizes c.args.one.num c.args.one.den c.args.other.num c.args.other.den c.args.one.positive c.args.other.positive c.requires.sizes c.requires.dens in search (rules, exact)

pub overflow_mul-result-2 : goal.overflow_mul-result-2
overflow_mul-result-2 c = let s = sizes c.args.one.num c.args.one.den c.args.other.num c.args.other.den c.args.one.positive c.args.other.positive c.requires.sizes c.requires.dens in search (rules, exact)

pub overflow_mul-result-3 : goal.overflow_mul-result-3
overflow_mul-result-3 c = let s = sizes c.args.one.num c.args.one.den c.args.other.num c.args.other.den c.args.one.positive c.args.other.positive c.requires.sizes c.requires.dens in search (rules, exact)

pub invariant_of-result : goal.invariant_of-result
invariant_of-result c =
    let s = sizes c.args.one.num c.args.one.den c.args.other.num c.args.other.den c.args.one.positive c.args.other.positive c.requires.sizes c.requires.dens in
    let d : FitsSigned w128 c.args.one.den = search rules in
    let e : FitsSigned w128 c.args.other.den = search rules in
    record { positive = simp (to_z-of_z d, to_z-of_z e, to_z-of_z s.bottom) s.positive }

pub returns : goal.returns
returns c =
    let s = sizes c.args.one.num c.args.one.den c.args.other.num c.args.other.den c.args.one.positive c.args.other.positive c.requires.sizes c.requires.dens in
    let n : FitsSigned w128 c.args.one.num = search rules in
    let m : FitsSigned w128 c.args.other.num = search rules in
    let d : FitsSigned w128 c.args.one.den = search rules in
    let e : FitsSigned w128 c.args.other.den = search rules in
    λ r t p q. simp (to_z-of_z n, to_z-of_z d, to_z-of_z m, to_z-of_z e, to_z-of_z s.left, to_z-of_z s.right, to_z-of_z s.top, to_z-of_z s.bottom)
    (is_difference c.args.one.num c.args.one.den c.args.other.num c.args.other.den r t p q)
