use Rattle.std.proofs.Common.{◌≡◌, ◌^◌, ℤ, pos, neg_ℤ, ◌-ℤ◌, ◌≤◌, FitsSigned, to_z-of_z, unsigned_abs, arith, rules}
use Rattle.std.specs.Int.{w128}
use Rattle.units_core.proofs.Signed.{signed_arith, fits_within, one_part}
use Rattle.fractions.proofs.RoundingLemmas.{negated_is}
use Rattle.worst_values.proofs.candidates.opposite.Goals as goal

pub returns : goal.returns
returns c =
    let n = c.args.fraction.num in
    let d = c.args.fraction.den in
    let fn : FitsSigned w128 n = search rules in
    let fd : FitsSigned w128 d = search rules in
    let small : unsigned_abs (pos 0 -ℤ n) ≤ 10 ^ 38 = omega (arith, signed_arith, c.requires, one_part n, one_part (pos 0 -ℤ n)) in
    let fm : FitsSigned w128 (pos 0 -ℤ n) = fits_within (pos 0 -ℤ n) (10 ^ 38) small (omega arith) in
    let turned : pos 0 -ℤ n ≡ neg_ℤ n = omega (arith, signed_arith) in
    λ r p. simp (to_z-of_z fd, to_z-of_z fn, to_z-of_z fm) (rw turned (negated_is n d r p))
