use Rattle.std.proofs.Common.{rules, pos, ◌^◌, ◌-ℤ◌, ◌≤ℤ◌, FitsSigned, to_z-of_z, arith}
use Rattle.std.specs.Int.{w128}
use Rattle.units_core.proofs.Signed.{signed_arith}
use Rattle.view_curves.proofs.scales.Scale.is_exact.Goals as goal

pub returns : goal.returns
returns c =
    let s = c.args.self.now in
    let h : FitsSigned w128 s.high = search rules in
    let l : FitsSigned w128 s.low = search rules in
    let f : FitsSigned w128 c.args.figure = search rules in
    let q : FitsSigned w128 c.in-Some.span = search rules in
    let is = (simp (to_z-of_z h, to_z-of_z l) at c.in-Some.ensures) in
    let some : pos 1 ≤ℤ (s.high -ℤ s.low) = omega (arith, signed_arith, is, simp (to_z-of_z q) at c.if-span-lt1.false) in
    let most : (s.high -ℤ s.low) ≤ℤ pos (10 ^ 34) = omega (arith, signed_arith, is, simp (to_z-of_z q) at c.if-span-gt-EXACT.false) in
    let has = (simp (to_z-of_z f) at c.has.ensures) in
    (λ in'. record { low = (has.0 in').0; high = (has.0 in').1; some = some; span = most }, λ in'. has.1 (in'.low, in'.high))
