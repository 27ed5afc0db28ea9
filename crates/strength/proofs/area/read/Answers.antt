use Rattle.std.proofs.Common.{rules, ◌≡◌, ◌^◌, ℕ, ℤ, pos, ◌+ℤ◌, ◌*ℤ◌, FitsSigned, to_z-of_z, arith}
use Rattle.std.specs.Int.{w64, int_div_euclid, int_shr}
use Rattle.std.specs.Int.Signed.{mag_shr}
use Rattle.std.proofs.lemmas.Int.{fits_signed_from_abs}
use Rattle.units_core.proofs.Decisions.{quotient_is}
use Rattle.units_core.proofs.Signed.{signed_arith}
use Rattle.hydrostat.proofs.Sure.{shift_is_floor}
use Rattle.strength.proofs.area.read.Goals as goal

shifted : (z : ℤ) (k : ℕ) → FitsSigned w64 z → FitsSigned w64 (int_shr z k)
shifted z k h = record { sfits = omega (arith, h.sfits, mag_shr z (2 ^ k)) }

divided : (z : ℤ) → int_shr z 36 ≡ int_div_euclid z (pos (2 ^ 36))
divided z =
    let is = shift_is_floor z 36 in
    quotient_is z (int_shr z 36) (pos (2 ^ 36)) (omega (arith, signed_arith)) (omega (arith, signed_arith, is.low)) (omega (arith, signed_arith, is.rest))

pub returns : goal.returns
returns c =
    let l = c.args.line in
    let a : FitsSigned w64 l.start = search rules in
    let s : FitsSigned w64 l.slope = search rules in
    let rise : FitsSigned w64 (l.slope *ℤ c.args.above) = fits_signed_from_abs w64 _ (omega (arith, c.requires.rise)) in
    let sum : FitsSigned w64 (l.start +ℤ (l.slope *ℤ c.args.above)) = fits_signed_from_abs w64 _ (omega (arith, c.requires.sum)) in
    let down = shifted (l.start +ℤ (l.slope *ℤ c.args.above)) 36 sum in
    simp (to_z-of_z a, to_z-of_z s, to_z-of_z c.ranges.above, to_z-of_z rise, to_z-of_z sum, to_z-of_z down) (divided (l.start +ℤ (l.slope *ℤ c.args.above)))
