use Rattle.std.proofs.Common.{rules, ◌≡◌, ◌∙◌, ◌^◌, ◌≤◌, ℤ, pos, ◌+ℤ◌, ◌-ℤ◌, ◌*ℤ◌, ◌≤ℤ◌, unsigned_abs, refl, FitsSigned, to_z-of_z}
use Rattle.std.specs.Int.{w64}
use Rattle.hydrostat.specs.Leading.{IsScaled, IsSure}
use Rattle.hydrostat.proofs.Scaled.{scaled_is_sure, sure_is_known}
use Rattle.hydrostat.proofs.draught_lines.Leading.draught_down.Goals as goal

is_sure : (a s b t d x q rest : ℤ) → IsScaled a s b t d → unsigned_abs x ≤ 10 ^ 6 → unsigned_abs q ≤ 10 ^ 6 → rest ≡ (a -ℤ (s *ℤ x)) -ℤ (q *ℤ pos (2 ^ 40)) → pos 6000132 ≤ℤ rest → (rest +ℤ pos 6000132) ≤ℤ pos (2 ^ 40)
    → IsSure q (b -ℤ (t *ℤ x)) d
is_sure a s b t d x q rest scaled hx hq e above below = scaled_is_sure a s b t d x q scaled hx hq (rw (← e) above) (rw (← e) below)

pub returns-then-is_sure-clause-known : goal.returns-then-is_sure-clause-known
returns-then-is_sure-clause-known c =
    let l = c.args.self.now in
    let q = c.whole-draught.result in
    let s : FitsSigned w64 q = search rules in
    let r : FitsSigned w64 c.rest_of.result = search rules in
    let t : FitsSigned w64 c.parts_at-parts.result = search rules in
    let a : FitsSigned w64 l.start = search rules in
    let k : FitsSigned w64 l.slope = search rules in
    let parts = simp (to_z-of_z a, to_z-of_z k, to_z-of_z c.ranges.x) at c.parts_at-parts.ensures.value in
    let rest = simp (to_z-of_z t, to_z-of_z s) at c.rest_of.ensures in
    let above = simp (to_z-of_z r) at c.if-is_sure.ensures.low refl in
    let below = simp (to_z-of_z r) at c.if-is_sure.ensures.high refl in
    sure_is_known l.is_known l.start l.slope c.args.x q c.rest_of.result l.idle (rest ∙ (λ i. parts i -ℤ (q *ℤ pos (2 ^ 40)))) above below

pub returns-then-is_sure-clause-sure : goal.returns-then-is_sure-clause-sure
returns-then-is_sure-clause-sure c =
    let l = c.args.self.now in
    let q = c.whole-draught.result in
    let s : FitsSigned w64 q = search rules in
    let r : FitsSigned w64 c.rest_of.result = search rules in
    let t : FitsSigned w64 c.parts_at-parts.result = search rules in
    let a : FitsSigned w64 l.start = search rules in
    let k : FitsSigned w64 l.slope = search rules in
    let parts = simp (to_z-of_z a, to_z-of_z k, to_z-of_z c.ranges.x) at c.parts_at-parts.ensures.value in
    let rest = simp (to_z-of_z t, to_z-of_z s) at c.rest_of.ensures in
    let above = simp (to_z-of_z r) at c.if-is_sure.ensures.low refl in
    let below = simp (to_z-of_z r) at c.if-is_sure.ensures.high refl in
    let left = rest ∙ (λ i. parts i -ℤ (q *ℤ pos (2 ^ 40))) in
    let known = sure_is_known l.is_known l.start l.slope c.args.x q c.rest_of.result l.idle left above below in
    simp (to_z-of_z s) (is_sure l.start l.slope l.base l.step l.divisor c.args.x q c.rest_of.result (l.scaled known) c.requires c.whole-draught.ensures left above below)
