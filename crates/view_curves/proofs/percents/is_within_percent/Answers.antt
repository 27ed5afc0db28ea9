use Rattle.std.proofs.Common.{rules, ◌^◌, ◌*◌, ◌≤◌, ℤ, pos, unsigned_abs, ◌*ℤ◌, ◌≤ℤ◌, FitsSigned, to_z-of_z, subst, sym, arith}
use Rattle.std.specs.Int.{w64, w128}
use Rattle.units_core.proofs.Signed.{fits_within, product_within, signed_arith}
use Rattle.view_curves.proofs.PercentLemmas.{percent_at_most, size_within}
use Rattle.view_curves.proofs.percents.is_within_percent.Goals as goal

pub returns : goal.returns
returns c =
    let n = c.args.size in
    let k = c.args.percent in
    let l = c.from.result in
    let fn : FitsSigned w128 n = search rules in
    let fk : FitsSigned w128 k = search rules in
    let fl : FitsSigned w128 l = search rules in
    let fm : FitsSigned w64 c.args.most = search rules in
    let from = simp (to_z-of_z fm) at c.from.ensures in
    let left : FitsSigned w128 (n *ℤ pos 100) = omega (arith, signed_arith, c.requires.size) in
    let few = size_within k 999 c.requires.percent.0 c.requires.percent.1 in
    let short = subst (λ (x : ℤ). unsigned_abs x ≤ 2 ^ 63) (sym from) (size_within c.args.most (2 ^ 63) (omega (arith, signed_arith, c.requires.most)) (omega (arith, signed_arith, fm))) in
    let right : FitsSigned w128 (k *ℤ l) = fits_within (k *ℤ l) (999 * 2 ^ 63) (product_within k l 999 (2 ^ 63) few short) (omega arith) in
    λ held.
    let le : (n *ℤ pos 100) ≤ℤ (k *ℤ l) = omega (arith, signed_arith, simp (to_z-of_z fn, to_z-of_z fk, to_z-of_z fl, to_z-of_z left, to_z-of_z right) at held) in
    percent_at_most n c.args.most k c.requires.most (subst (λ (x : ℤ). (n *ℤ pos 100) ≤ℤ (k *ℤ x)) from le)
