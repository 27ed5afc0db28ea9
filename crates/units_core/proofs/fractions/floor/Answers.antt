use Rattle.std.proofs.Common.{◌≡◌, ◌<◌, ◌≤ℤ◌, ℤ, pos, negsuc, arith, FitsSigned, to_z-of_z, rules}
use Rattle.std.specs.Int.{w128, int_div_euclid}
use Rattle.units_core.specs.Ratio.{IsFloor, ◌over◌}
use Rattle.units_core.proofs.Signed.{signed_arith, int_div_euclid-parts, distributes}
use Rattle.units_core.proofs.fractions.floor.Goals as goal

floor_of : (n d q : ℤ) → pos 1 ≤ℤ d → q ≡ int_div_euclid n d → IsFloor q (n over d)
floor_of n (pos d) q h e =
    let positive : 0 < d = omega (arith, signed_arith) in
    let parts = rw (← e) at (int_div_euclid-parts n d positive) in
    (omega (arith, signed_arith, parts.0), rw (distributes q (pos 1) (pos d)) (omega (arith, signed_arith, parts.1)))
floor_of n (negsuc d) q h e = absurd (omega (arith, signed_arith))

pub returns-in-Some-clause-greatest : goal.returns-in-Some-clause-greatest
returns-in-Some-clause-greatest c =
    let q : FitsSigned w128 c.in-Some.quotient = search rules in
    simp (to_z-of_z q) (floor_of c.args.fraction.num c.args.fraction.den c.in-Some.quotient c.args.fraction.positive c.in-Some.ensures)

pub returns-in-None-clause-greatest : goal.returns-in-None-clause-greatest
returns-in-None-clause-greatest c =
    let q : FitsSigned w128 c.div_euclid.result = search rules in
    let n : FitsSigned w128 c.args.fraction.num = search rules in
    let d : FitsSigned w128 c.args.fraction.den = search rules in
    let value = simp (to_z-of_z n, to_z-of_z d) at c.div_euclid.ensures in
    simp (to_z-of_z q) (floor_of c.args.fraction.num c.args.fraction.den c.div_euclid.result c.args.fraction.positive value)
