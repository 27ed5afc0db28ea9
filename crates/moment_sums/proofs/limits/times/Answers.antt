use Rattle.std.proofs.Common.{◌^◌, ◌*ℤ◌, FitsSigned, to_z-of_z, arith}
use Rattle.std.specs.Int.{w128}
use Rattle.units_core.proofs.Signed.{fits_within, product_back, product_within}
use Rattle.moment_sums.proofs.limits.times.Goals as goal

pub returns-clause-value : goal.returns-clause-value
returns-clause-value c =
    let size = product_within c.args.length c.args.kg (10 ^ 7) (10 ^ 15) c.requires.length c.requires.kg in
    let fits : FitsSigned w128 (c.args.length *ℤ c.args.kg) = fits_within _ _ size (omega arith) in
    product_back _ _ (to_z-of_z c.ranges.length) (to_z-of_z c.ranges.kg) fits

pub returns-clause-within : goal.returns-clause-within
returns-clause-within c =
    let size = product_within c.args.length c.args.kg (10 ^ 7) (10 ^ 15) c.requires.length c.requires.kg in
    let fits : FitsSigned w128 (c.args.length *ℤ c.args.kg) = fits_within _ _ size (omega arith) in
    rw (product_back _ _ (to_z-of_z c.ranges.length) (to_z-of_z c.ranges.kg) fits) size
