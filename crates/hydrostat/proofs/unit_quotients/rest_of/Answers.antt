use Rattle.std.proofs.Common.{◌-ℤ◌, ◌*ℤ◌, FitsSigned, to_z-of_z, arith}
use Rattle.std.specs.Int.{w64}
use Rattle.std.proofs.lemmas.Int.{fits_signed_from_abs}
use Rattle.units_core.proofs.Signed.{product_within, difference_within}
use Rattle.hydrostat.proofs.unit_quotients.rest_of.Goals as goal

pub returns : goal.returns
returns c =
    let q = c.args.quotient in
    let d = c.args.divisor in
    let product = product_within q d _ _ c.requires.quotient c.requires.divisor in
    let rest = difference_within c.args.top (q *ℤ d) _ _ c.requires.top product in
    let p : FitsSigned w64 (q *ℤ d) = fits_signed_from_abs w64 _ (omega (arith, product)) in
    let r : FitsSigned w64 (c.args.top -ℤ (q *ℤ d)) = fits_signed_from_abs w64 _ (omega (arith, rest)) in
    simp (to_z-of_z c.ranges.top, to_z-of_z c.ranges.quotient, to_z-of_z c.ranges.divisor, to_z-of_z p, to_z-of_z r)
