use Rattle.std.proofs.Common.{rules, ◌≡◌, ◌∙◌, ◌^◌, ◌≤◌, ℤ, pos, neg_ℤ, ◌-ℤ◌, ◌*ℤ◌, unsigned_abs, FitsSigned, to_z-of_z, ap, arith}
use Rattle.std.specs.Int.{w128}
use Rattle.units_core.specs.Ratio.{◌over◌, floor_of}
use Rattle.units_core.proofs.Decisions.{floor_same}
use Rattle.units_core.proofs.Signed.{signed_arith, fits_within, one_part}
use Rattle.fractions.proofs.RoundingLemmas.{negated_is, times_is}
use Rattle.fractions.proofs.rounding.up.Goals as goal

minus : (x : ℤ) → pos 0 -ℤ x ≡ neg_ℤ x
minus x = omega (arith, signed_arith)

pub returns : goal.returns
returns c =
    let f = c.args.fraction in
    let s = c.args.scale in
    let m = c.times-many.result.num in
    let d = c.times-many.result.den in
    let q = c.floor.result in
    let fm : FitsSigned w128 m = search rules in
    let fd : FitsSigned w128 d = search rules in
    let fq : FitsSigned w128 q = search rules in
    let size : unsigned_abs m ≤ 10 ^ 38 = omega (arith, ap unsigned_abs c.times-many.ensures.num, c.requires) in
    let small : unsigned_abs (pos 0 -ℤ m) ≤ 10 ^ 38 = omega (arith, signed_arith, size, one_part m, one_part (pos 0 -ℤ m)) in
    let fn : FitsSigned w128 (pos 0 -ℤ m) = fits_within (pos 0 -ℤ m) (10 ^ 38) small (omega arith) in
    let fr : FitsSigned w128 (pos 0 -ℤ q) = search rules in
    let value = simp (to_z-of_z fm, to_z-of_z fd, to_z-of_z fn) at c.floor.ensures.value in
    λ r p. simp (to_z-of_z fq, to_z-of_z fr) (minus q ∙ ap neg_ℤ (value
    ∙ (λ j. floor_of ((minus m ∙ ap neg_ℤ c.times-many.ensures.num) j over c.times-many.ensures.den j))
    ∙ floor_same (neg_ℤ (f.num *ℤ pos s)) f.den (neg_ℤ (r.top *ℤ pos s) over r.bottom) (negated_is (f.num *ℤ pos s) f.den ((r.top *ℤ pos s) over r.bottom) (times_is f.num f.den r s p))))
