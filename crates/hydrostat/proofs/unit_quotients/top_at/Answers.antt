use Rattle.std.proofs.Common.{◌-ℤ◌, ◌*ℤ◌, FitsSigned, to_z-of_z, arith}
use Rattle.std.specs.Int.{w64}
use Rattle.std.proofs.lemmas.Int.{fits_signed_from_abs}
use Rattle.units_core.proofs.Signed.{product_within, difference_within}
use Rattle.hydrostat.proofs.unit_quotients.top_at.Goals as goal

pub returns-clause-value : goal.returns-clause-value
returns-clause-value c =
    let s = c.args.step in
    let x = c.args.x in
    let product = product_within s x _ _ c.requires.step c.requires.x in
    let top = difference_within c.args.base (s *ℤ x) _ _ c.requires.base product in
    let p : FitsSigned w64 (s *ℤ x) = fits_signed_from_abs w64 _ (omega (arith, product)) in
    let t : FitsSigned w64 (c.args.base -ℤ (s *ℤ x)) = fits_signed_from_abs w64 _ (omega (arith, top)) in
    simp (to_z-of_z c.ranges.base, to_z-of_z c.ranges.step, to_z-of_z c.ranges.x, to_z-of_z p, to_z-of_z t)

pub returns-clause-within : goal.returns-clause-within
returns-clause-within c =
    let s = c.args.step in
    let x = c.args.x in
    let product = product_within s x _ _ c.requires.step c.requires.x in
    let top = difference_within c.args.base (s *ℤ x) _ _ c.requires.base product in
    let p : FitsSigned w64 (s *ℤ x) = fits_signed_from_abs w64 _ (omega (arith, product)) in
    let t : FitsSigned w64 (c.args.base -ℤ (s *ℤ x)) = fits_signed_from_abs w64 _ (omega (arith, top)) in
    simp (to_z-of_z c.ranges.base, to_z-of_z c.ranges.step, to_z-of_z c.ranges.x, to_z-of_z p, to_z-of_z t) (omega (arith, top))
