use Rattle.std.proofs.Common.{rules, arith, ◌≡◌, ◌∙◌, ◌^◌, ap, length-set, neg_ℤ, to_z-of_z, FitsSigned}
use Rattle.std.specs.Int.{w128}
use Rattle.units_core.specs.Interpolation.{at}
use Rattle.units_core.proofs.Signed.{fits_within}
use Rattle.moment_sums.proofs.Bounds.{set_done}
use Rattle.moment_sums.proofs.rows.negate_all.Goals as goal

pub loop-i-preserved : goal.loop-i-preserved
loop-i-preserved c =
    let inv = c.loop-i.invariant in
    let out : FitsSigned w128 c.negate.result = search rules in
    let own : FitsSigned w128 (at c.args.numbers.now c.loop-i.i) = fits_within _ (10 ^ 30) (c.requires c.loop-i.i) (omega arith) in
    let value : c.negate.result ≡ neg_ℤ (at c.args.numbers.now c.loop-i.i) = c.negate.ensures ∙ ap neg_ℤ (to_z-of_z own) in
    (simp length-set inv.0, simp (to_z-of_z out) (set_done c.loop-i.negated (λ k. neg_ℤ (at c.args.numbers.now k)) c.loop-i.i c.negate.result (omega (arith, inv.0, c.loop-i-test.true)) inv.1 value))
