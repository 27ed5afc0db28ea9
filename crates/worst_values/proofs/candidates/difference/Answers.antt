use Rattle.std.proofs.Common.{rules, ◌*◌, ◌^◌, ◌≤◌, ℤ, pos, ◌-ℤ◌, ◌*ℤ◌, ◌≤ℤ◌, unsigned_abs, FitsSigned, to_z-of_z, arith}
use Rattle.std.specs.Int.{w128}
use Rattle.units_core.proofs.Ratios.{is_difference}
use Rattle.units_core.proofs.Signed.{exact, product_within, difference_within, fits_within, product_positive}
use Rattle.worst_values.proofs.candidates.difference.Goals as goal

record Sizes (n d m e : ℤ) : Type 0 where
  pub num : FitsSigned w128 n
  pub den : FitsSigned w128 d
  pub other_num : FitsSigned w128 m
  pub other_den : FitsSigned w128 e
  pub left : FitsSigned w128 (n *ℤ e)
  pub right : FitsSigned w128 (m *ℤ d)
  pub top : FitsSigned w128 ((n *ℤ e) -ℤ (m *ℤ d))
  pub bottom : FitsSigned w128 (d *ℤ e)
  pub positive : pos 1 ≤ℤ (d *ℤ e)

sizes : (n d m e : ℤ) → pos 1 ≤ℤ d → pos 1 ≤ℤ e → unsigned_abs n ≤ 3 * 10 ^ 23 → unsigned_abs d ≤ 10 ^ 17 → unsigned_abs m ≤ 10 ^ 14 → unsigned_abs e ≤ 10 ^ 8 → Sizes n d m e
sizes n d m e p q hn hd hm he =
    let left = product_within n e (3 * 10 ^ 23) (10 ^ 8) hn he in
    let right = product_within m d (10 ^ 14) (10 ^ 17) hm hd in
    let top = difference_within (n *ℤ e) (m *ℤ d) (3 * 10 ^ 23 * 10 ^ 8) (10 ^ 14 * 10 ^ 17) left right in
    let bottom = product_within d e (10 ^ 17) (10 ^ 8) hd he in
    record {
      num = fits_within _ _ hn (omega arith);
      den = fits_within _ _ hd (omega arith);
      other_num = fits_within _ _ hm (omega arith);
      other_den = fits_within _ _ he (omega arith);
      left = fits_within _ _ left (omega arith);
      right = fits_within _ _ right (omega arith);
      top = fits_within _ _ top (omega arith);
      bottom = fits_within _ _ bottom (omega arith);
      positive = product_positive _ _ p q;
    }

pub overflow_sub-result : goal.overflow_sub-result
overflow_sub-result c = let s = sizes c.args.one.num c.args.one.den c.args.other.num c.args.other.den c.args.one.positive c.args.other.positive c.requires.one_num c.requires.one_den c.requires.other_num c.requires.other_den in search (rules, exact)

pub overflow_mul-result-3 : goal.overflow_mul-result-3
overflow_mul-result-3 c = let s = sizes c.args.one.num c.args.one.den c.args.other.num c.args.other.den c.args.one.positive c.args.other.positive c.requires.one_num c.requires.one_den c.requires.other_num c.requires.other_den in search (rules, exact)

pub invariant_of-result : goal.invariant_of-result
invariant_of-result c =
    let s = sizes c.args.one.num c.args.one.den c.args.other.num c.args.other.den c.args.one.positive c.args.other.positive c.requires.one_num c.requires.one_den c.requires.other_num c.requires.other_den in
    record { positive = simp (to_z-of_z s.den, to_z-of_z s.other_den, to_z-of_z s.bottom) s.positive }

pub returns : goal.returns
returns c =
    let s = sizes c.args.one.num c.args.one.den c.args.other.num c.args.other.den c.args.one.positive c.args.other.positive c.requires.one_num c.requires.one_den c.requires.other_num c.requires.other_den in
    λ r t p q. simp (to_z-of_z s.num, to_z-of_z s.den, to_z-of_z s.other_num, to_z-of_z s.other_den, to_z-of_z s.left, to_z-of_z s.right, to_z-of_z s.top, to_z-of_z s.bottom)
    (is_difference c.args.one.num c.args.one.den c.args.other.num c.args.other.den r t p q)
