use Rattle.std.proofs.Common.{rules, ◌∙◌, ◌^◌, ◌*◌, ◌-ℤ◌, FitsSigned, to_z-of_z, arith}
use Rattle.std.specs.Int.{w128}
use Rattle.righting.proofs.heeled.lever.Goals as goal

pub less_both-requires-clause-whole : goal.less_both-requires-clause-whole
less_both-requires-clause-whole c =
    let r : FitsSigned w128 c.triple-crossing.result = search rules in
    let size = simp (to_z-of_z c.ranges.kn, to_z-of_z c.ranges.weight) at c.triple-crossing.ensures.size in
    let most = size (10 ^ 14) (10 ^ 9) c.requires.kn c.requires.weight in
    simp (to_z-of_z r) (omega (arith, most))

pub less_both-requires-clause-one : goal.less_both-requires-clause-one
less_both-requires-clause-one c =
    let r : FitsSigned w128 c.triple-rise.result = search rules in
    let size = simp (to_z-of_z c.ranges.upright, to_z-of_z c.ranges.gap) at c.triple-rise.ensures.size in
    let most = size (2 * 10 ^ 15) (10 ^ 8) c.requires.upright c.requires.gap in
    simp (to_z-of_z r) (omega (arith, most))

pub less_both-requires-clause-other : goal.less_both-requires-clause-other
less_both-requires-clause-other c =
    let r : FitsSigned w128 c.triple-shift.result = search rules in
    let size = simp (to_z-of_z c.ranges.aside, to_z-of_z c.ranges.gap) at c.triple-shift.ensures.size in
    let most = size (10 ^ 15) (10 ^ 8) c.requires.aside c.requires.gap in
    simp (to_z-of_z r) (omega (arith, most))

pub returns-clause-value : goal.returns-clause-value
returns-clause-value c =
    let a : FitsSigned w128 c.triple-crossing.result = search rules in
    let b : FitsSigned w128 c.triple-rise.result = search rules in
    let d : FitsSigned w128 c.triple-shift.result = search rules in
    let r : FitsSigned w128 c.less_both.result = search rules in
    let crossing = simp (to_z-of_z c.ranges.kn, to_z-of_z c.ranges.weight) at c.triple-crossing.ensures.value in
    let rise = simp (to_z-of_z c.ranges.upright, to_z-of_z c.ranges.gap, to_z-of_z c.ranges.sine) at c.triple-rise.ensures.value in
    let shift = simp (to_z-of_z c.ranges.aside, to_z-of_z c.ranges.gap, to_z-of_z c.ranges.cosine) at c.triple-shift.ensures.value in
    let left = simp (to_z-of_z a, to_z-of_z b, to_z-of_z d) at c.less_both.ensures.value in
    to_z-of_z r ∙ (left ∙ (λ i. (crossing i -ℤ rise i) -ℤ shift i))
