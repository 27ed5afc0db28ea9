use Rattle.std.proofs.Common.{rules, ◌≡◌, ◌∙◌, ◌^◌, ◌≤◌, ℤ, pos, ◌+ℤ◌, ◌-ℤ◌, ◌*ℤ◌, ◌≤ℤ◌, unsigned_abs, refl, FitsSigned, to_z-of_z}
use Rattle.std.specs.Int.{w64}
use Rattle.hydrostat.specs.Leading.{IsSure}
use Rattle.hydrostat.proofs.unit_quotients.quotient_in_units.Goals as goal

is_sure : (q top divisor rest : ℤ) → unsigned_abs q ≤ 10 ^ 6 → rest ≡ top -ℤ (q *ℤ divisor) → pos 2000002 ≤ℤ rest → (rest +ℤ pos 2000002) ≤ℤ divisor → IsSure q top divisor
is_sure q top divisor rest within e above below = record { within = within; above = rw (← e) above; below = rw (← e) below }

pub returns-then-is_sure : goal.returns-then-is_sure
returns-then-is_sure c =
    let q = c.to_signed-draught.result in
    let d = c.args.divisor in
    let s : FitsSigned w64 q = search rules in
    let r : FitsSigned w64 c.rest_of.result = search rules in
    let t : FitsSigned w64 c.top_at-top.result = search rules in
    let top = simp (to_z-of_z c.ranges.base, to_z-of_z c.ranges.step, to_z-of_z c.ranges.x) at c.top_at-top.ensures.value in
    let rest = simp (to_z-of_z t, to_z-of_z s, to_z-of_z c.ranges.divisor) at c.rest_of.ensures in
    let above = simp (to_z-of_z r) at c.if-is_sure.ensures.low refl in
    let below = simp (to_z-of_z r, to_z-of_z c.ranges.divisor) at c.if-is_sure.ensures.high refl in
    simp (to_z-of_z s) (is_sure q (c.args.base -ℤ (c.args.step *ℤ c.args.x)) d c.rest_of.result c.to_signed-draught.ensures
    (rest ∙ (λ i. top i -ℤ (q *ℤ d))) above below)
