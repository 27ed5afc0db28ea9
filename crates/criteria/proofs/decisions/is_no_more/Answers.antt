use Rattle.std.proofs.Common.{◌*◌, ◌^◌, ◌≤◌, ◌*ℤ◌, ℤ, unsigned_abs, FitsSigned, to_z-of_z, arith}
use Rattle.std.specs.Int.{w128}
use Rattle.units_core.proofs.Signed.{product_within, fits_within}
use Rattle.criteria.proofs.decisions.is_no_more.Goals as goal

record Sizes (a b n d : ℤ) : Type 0 where
  pub fa : FitsSigned w128 a
  pub fb : FitsSigned w128 b
  pub fn : FitsSigned w128 n
  pub fd : FitsSigned w128 d
  pub left : FitsSigned w128 (a *ℤ d)
  pub right : FitsSigned w128 (n *ℤ b)

sizes : (a b n d : ℤ) → unsigned_abs a ≤ 10 ^ 14 → unsigned_abs b ≤ 10 ^ 8 → unsigned_abs n ≤ 3 * 10 ^ 23 → unsigned_abs d ≤ 10 ^ 17 → Sizes a b n d
sizes a b n d ha hb hn hd = record {
  fa = fits_within _ _ ha (omega arith);
  fb = fits_within _ _ hb (omega arith);
  fn = fits_within _ _ hn (omega arith);
  fd = fits_within _ _ hd (omega arith);
  left = fits_within _ _ (product_within a d (10 ^ 14) (10 ^ 17) ha hd) (omega arith);
  right = fits_within _ _ (product_within n b (3 * 10 ^ 23) (10 ^ 8) hn hb) (omega arith);
}

pub returns : goal.returns
returns c =
    let s = sizes c.args.one.num c.args.one.den c.args.other.num c.args.other.den c.requires.one_num c.requires.one_den c.requires.other_num c.requires.other_den in
    simp (to_z-of_z s.fa, to_z-of_z s.fb, to_z-of_z s.fn, to_z-of_z s.fd, to_z-of_z s.left, to_z-of_z s.right)
