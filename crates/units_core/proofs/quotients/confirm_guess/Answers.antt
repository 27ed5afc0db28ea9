use Rattle.std.proofs.Common.{rules, ◌∙◌, pos, ◌-ℤ◌, ◌*ℤ◌, ◌≤ℤ◌, ◌<ℤ◌, FitsSigned, to_z-of_z, refl}
use Rattle.std.specs.Int.{w64, w128}
use Rattle.units_core.proofs.Decisions.{quotient_is}
use Rattle.units_core.proofs.quotients.confirm_guess.Goals as goal

pub returns-then-is_rest : goal.returns-then-is_rest
returns-then-is_rest c =
    let n = c.args.fraction.num in
    let by = c.args.fraction.den in
    let q = c.args.guess in
    let f : FitsSigned w128 c.from.result = search rules in
    let g : FitsSigned w64 q = search rules in
    let r : FitsSigned w128 c.in-Some.rest = search rules in
    let d : FitsSigned w128 by = search rules in
    let low = simp (to_z-of_z r) at c.if-is_rest.ensures.low refl in
    let high = simp (to_z-of_z r, to_z-of_z d) at c.if-is_rest.ensures.high refl in
    let rest = simp (to_z-of_z g) at c.in-Some.ensures in
    let least : pos 0 ≤ℤ (n -ℤ (q *ℤ by)) = rw (← rest) low in
    let small : (n -ℤ (q *ℤ by)) <ℤ by = rw (← rest) high in
    to_z-of_z f ∙ (c.from.ensures ∙ (to_z-of_z g ∙ quotient_is n q by c.args.fraction.positive least small))
