use Rattle.std.proofs.Common.{rules, ◌∙◌, pos, ◌+ℤ◌, ◌*ℤ◌, ◌≤ℤ◌, FitsSigned, to_z-of_z, ap, sym, arith}
use Rattle.std.specs.Int.{w128}
use Rattle.units_core.proofs.Signed.{signed_arith}
use Rattle.view_figures.proofs.Parts.{percent_apart}
use Rattle.view_figures.proofs.shares.percent_by.Goals as goal

pub returns-clause-value : goal.returns-clause-value
returns-clause-value c =
    let n = c.args.share.num in
    let d = c.args.share.den in
    let q = c.args.whole in
    let u = c.rest_percent.result in
    let fq : FitsSigned w128 q = search rules in
    let fu : FitsSigned w128 u = search rules in
    let fp : FitsSigned w128 (pos 100 *ℤ q) = omega (arith, signed_arith, c.requires.size) in
    let fs : FitsSigned w128 ((pos 100 *ℤ q) +ℤ u) = omega (arith, signed_arith, c.requires.size, c.rest_percent.ensures.size) in
    let value = simp (to_z-of_z fq) at c.rest_percent.ensures.value in
    simp (to_z-of_z fq, to_z-of_z fu, to_z-of_z fp, to_z-of_z fs) (ap (λ x. (pos 100 *ℤ q) +ℤ x) value ∙ sym (percent_apart q n d c.args.share.positive))

pub returns-clause-size : goal.returns-clause-size
returns-clause-size c =
    let q = c.args.whole in
    let u = c.rest_percent.result in
    let fq : FitsSigned w128 q = search rules in
    let fu : FitsSigned w128 u = search rules in
    let fp : FitsSigned w128 (pos 100 *ℤ q) = omega (arith, signed_arith, c.requires.size) in
    let fs : FitsSigned w128 ((pos 100 *ℤ q) +ℤ u) = omega (arith, signed_arith, c.requires.size, c.rest_percent.ensures.size) in
    let low : pos 0 ≤ℤ ((pos 100 *ℤ q) +ℤ u) = omega (arith, signed_arith, c.requires.size.0, c.rest_percent.ensures.size.0) in
    let high : ((pos 100 *ℤ q) +ℤ u) ≤ℤ pos 1000 = omega (arith, signed_arith, c.requires.size.1, c.rest_percent.ensures.size.1) in
    simp (to_z-of_z fq, to_z-of_z fu, to_z-of_z fp, to_z-of_z fs) (low, high)
