use Rattle.std.proofs.Common.{rules, ◌∙◌, pos, ◌-ℤ◌, ◌*ℤ◌, ◌≤ℤ◌, ◌<ℤ◌, FitsSigned, to_z-of_z, refl, arith}
use Rattle.std.specs.Int.{w64, w128}
use Rattle.units_core.proofs.Signed.{signed_arith}
use Rattle.units_core.proofs.Decisions.{quotient_is}
use Rattle.strength.proofs.forces.quotient_down.Goals as goal

pub returns-then-is_rest : goal.returns-then-is_rest
returns-then-is_rest c =
    let q = c.guess-quotient.result in
    let g : FitsSigned w64 q = search rules in
    let f : FitsSigned w128 c.from.result = search rules in
    let r : FitsSigned w128 c.rest_of.result = search rules in
    let rest = c.rest_of.ensures ∙ (λ i. to_z-of_z c.ranges.top i -ℤ (to_z-of_z g i *ℤ pos 2400000)) in
    let low = simp (to_z-of_z r) at c.if-is_rest.ensures.low refl in
    let high = simp (to_z-of_z r) at c.if-is_rest.ensures.high refl in
    let least : pos 0 ≤ℤ (c.args.top -ℤ (q *ℤ pos 2400000)) = rw (← rest) low in
    let small : (c.args.top -ℤ (q *ℤ pos 2400000)) <ℤ pos 2400000 = rw (← rest) high in
    to_z-of_z f ∙ (c.from.ensures ∙ (to_z-of_z g ∙ quotient_is c.args.top q (pos 2400000) (omega (arith, signed_arith)) least small))

pub returns-then-is_rest-2 : goal.returns-then-is_rest-2
returns-then-is_rest-2 c =
    let q = c.in-Some.next in
    let g : FitsSigned w64 q = search rules in
    let f : FitsSigned w128 c.from-then-is_rest-2.result = search rules in
    let r : FitsSigned w128 c.rest_of-in-Some.result = search rules in
    let rest = c.rest_of-in-Some.ensures ∙ (λ i. to_z-of_z c.ranges.top i -ℤ (to_z-of_z g i *ℤ pos 2400000)) in
    let low = simp (to_z-of_z r) at c.if-is_rest-2.ensures.low refl in
    let high = simp (to_z-of_z r) at c.if-is_rest-2.ensures.high refl in
    let least : pos 0 ≤ℤ (c.args.top -ℤ (q *ℤ pos 2400000)) = rw (← rest) low in
    let small : (c.args.top -ℤ (q *ℤ pos 2400000)) <ℤ pos 2400000 = rw (← rest) high in
    to_z-of_z f ∙ (c.from-then-is_rest-2.ensures ∙ (to_z-of_z g ∙ quotient_is c.args.top q (pos 2400000) (omega (arith, signed_arith)) least small))
