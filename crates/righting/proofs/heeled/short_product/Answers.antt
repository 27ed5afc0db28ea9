use Rattle.std.proofs.Common.{◌*ℤ◌, FitsSigned, to_z-of_z, arith}
use Rattle.std.specs.Int.{w64}
use Rattle.std.proofs.lemmas.Int.{fits_signed_from_abs}
use Rattle.units_core.proofs.Signed.{product_within}
use Rattle.righting.proofs.heeled.short_product.Goals as goal

pub returns : goal.returns
returns c =
    let size = product_within c.args.a c.args.b _ _ c.requires.one c.requires.other in
    let p : FitsSigned w64 (c.args.a *ℤ c.args.b) = fits_signed_from_abs w64 _ (omega (arith, size)) in
    simp (to_z-of_z c.ranges.a, to_z-of_z c.ranges.b, to_z-of_z p)
