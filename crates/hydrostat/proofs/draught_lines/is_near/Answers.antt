use Rattle.std.proofs.Common.{rules, ◌≡◌, ◌^◌, ℤ, pos, neg_ℤ, ◌-ℤ◌, ◌*ℤ◌, ◌≤ℤ◌, FitsSigned, to_z-of_z}
use Rattle.std.specs.Int.{w128}
use Rattle.hydrostat.specs.Leading.{IsNear}
use Rattle.hydrostat.proofs.draught_lines.is_near.Goals as goal

near : (g n d m e b : ℤ) → e ≡ (g *ℤ d) -ℤ (n *ℤ pos (2 ^ 40)) → b ≡ m *ℤ d → neg_ℤ b ≤ℤ e → e ≤ℤ b → IsNear g n d m
near g n d m e b p q low high = record { low = rw (← p, ← q) low; high = rw (← p, ← q) high }

pub returns : goal.returns
returns c =
    λ yes.
    let e : FitsSigned w128 c.error_of.result = search rules in
    let b : FitsSigned w128 c.product.result = search rules in
    let error = simp (to_z-of_z c.ranges.guess, to_z-of_z c.ranges.number, to_z-of_z c.ranges.divisor) at c.error_of.ensures in
    let bound = simp (to_z-of_z c.ranges.most, to_z-of_z c.ranges.divisor) at c.product.ensures.value in
    let low = simp (to_z-of_z e, to_z-of_z b) at (c.is_either_way.ensures.low yes) in
    let high = simp (to_z-of_z e, to_z-of_z b) at (c.is_either_way.ensures.high yes) in
    near c.args.guess c.args.number c.args.divisor c.args.most c.error_of.result c.product.result error bound low high
