use Rattle.std.proofs.Common.{rules, ◌∙◌, ℤ, pos, ◌+ℤ◌, ◌*ℤ◌, ◌≤ℤ◌, ◌<ℤ◌, ◌*◌, ◌^◌, ◌≤◌, unsigned_abs, FitsSigned, to_z-of_z, arith}
use Rattle.std.specs.Int.{w128}
use Rattle.units_core.proofs.Signed.{signed_arith, one_part, product_within}
use Rattle.units_core.specs.Ratio.{◌over◌, floor_of}
use Rattle.units_core.proofs.Decisions.{floor_is}
use Rattle.strength.proofs.forces.long_moment.Goals as goal

-- a 2,400,000th of a number of at most 82 * 10^23
small : (q n : ℤ) → unsigned_abs n ≤ 2 * 10 ^ 23 * 41 → (q *ℤ pos 2400000) ≤ℤ n → n <ℤ ((q +ℤ pos 1) *ℤ pos 2400000) → unsigned_abs q ≤ 4 * 10 ^ 18
small q n size low high = omega (arith, signed_arith, one_part q, one_part n, size, low, high)

pub narrow-requires : goal.narrow-requires
narrow-requires c =
    let q : FitsSigned w128 c.quotient_down.result = search rules in
    let t : FitsSigned w128 c.times_41.result = search rules in
    let n = c.args.top *ℤ pos 41 in
    let size = product_within c.args.top (pos 41) _ 41 c.requires (omega arith) in
    let is = floor_is (n over pos 2400000) (omega (arith, signed_arith)) in
    let top = to_z-of_z t ∙ (c.times_41.ensures.value ∙ (λ i. to_z-of_z c.ranges.top i *ℤ pos 41)) in
    let down = c.quotient_down.ensures ∙ (λ i. floor_of (top i over pos 2400000)) in
    simp (to_z-of_z q) (rw down (small (floor_of (n over pos 2400000)) n size is.0 is.1))
