use Rattle.std.proofs.Common.{◌^◌, ◌*ℤ◌, FitsSigned, to_z-of_z, arith}
use Rattle.std.specs.Int.{w128}
use Rattle.units_core.proofs.Signed.{product_within, fits_within}
use Rattle.criteria.proofs.decisions.bound.Goals as goal

pub returns : goal.returns
returns c =
    let l = c.ranges.limit in let d = c.ranges.den in
    let p : FitsSigned w128 (c.args.limit *ℤ c.args.den) = fits_within _ _ (product_within c.args.limit c.args.den (10 ^ 5) (10 ^ 31) c.requires.limit c.requires.den) (omega arith) in
    simp (to_z-of_z l, to_z-of_z d, to_z-of_z p)
