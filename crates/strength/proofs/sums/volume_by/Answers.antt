use Rattle.std.proofs.Common.{◌*ℤ◌, FitsSigned, to_z-of_z, arith}
use Rattle.std.specs.Int.{w64}
use Rattle.std.proofs.lemmas.Int.{fits_signed_from_abs}
use Rattle.units_core.proofs.Signed.{product_within}
use Rattle.strength.proofs.sums.volume_by.Goals as goal

pub returns-clause-value : goal.returns-clause-value
returns-clause-value c =
    let size = product_within c.args.area c.args.weight _ _ c.requires.area c.requires.weight in
    let all : FitsSigned w64 (c.args.area *ℤ c.args.weight) = fits_signed_from_abs w64 _ (omega (arith, size)) in
    simp (to_z-of_z c.ranges.area, to_z-of_z c.ranges.weight, to_z-of_z all)

pub returns-clause-size : goal.returns-clause-size
returns-clause-size c =
    let size = product_within c.args.area c.args.weight _ _ c.requires.area c.requires.weight in
    let all : FitsSigned w64 (c.args.area *ℤ c.args.weight) = fits_signed_from_abs w64 _ (omega (arith, size)) in
    simp (to_z-of_z c.ranges.area, to_z-of_z c.ranges.weight, to_z-of_z all) (omega (arith, size))
