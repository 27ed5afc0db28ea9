use Rattle.std.proofs.Common.{rules, ◌∙◌, pos, ◌≤ℤ◌, FitsSigned, to_z-of_z, subst, sym, arith}
use Rattle.std.specs.Int.{w128}
use Rattle.units_core.specs.Ratio.{◌over◌, floor_of}
use Rattle.units_core.proofs.Signed.{signed_arith}
use Rattle.view_figures.proofs.Parts.{natural, same_percent, ten_or_more}
use Rattle.view_figures.proofs.shares.percent.Goals as goal

pub returns-then-whole-gt9 : goal.returns-then-whole-gt9
returns-then-whole-gt9 c =
    let n = c.args.share.num in
    let d = c.args.share.den in
    let fw : FitsSigned w128 c.floor-whole.result = search rules in
    let more : pos 10 ≤ℤ c.floor-whole.result = omega (arith, signed_arith, to_z-of_z fw, c.if-whole-gt9.true) in
    let ten : pos 10 ≤ℤ floor_of (n over d) = subst (λ x. pos 10 ≤ℤ x) c.floor-whole.ensures.value more in
    λ r p. subst (λ x. pos 1000 ≤ℤ x) (same_percent n d r p) (ten_or_more n d c.args.share.positive ten)

pub returns-then-percent-gt999 : goal.returns-then-percent-gt999
returns-then-percent-gt999 c =
    let n = c.args.share.num in
    let d = c.args.share.den in
    λ r p. subst (λ x. pos 1000 ≤ℤ x) (same_percent n d r p) (omega (arith, signed_arith, c.if-percent-gt999.true, c.percent_by-percent.ensures.value))

pub returns : goal.returns
returns c =
    let n = c.args.share.num in
    let d = c.args.share.den in
    let p = c.percent_by-percent.result in
    let fp : FitsSigned w128 p = search rules in
    let most : p ≤ℤ pos 999 = omega (arith, signed_arith, to_z-of_z fp, c.if-percent-gt999.false) in
    let is = natural p c.percent_by-percent.ensures.size.0 in
    λ r q. simp (to_z-of_z fp) (
      is ∙ c.percent_by-percent.ensures.value ∙ same_percent n d r q,
      subst (λ x. x ≤ℤ pos 999) (sym is) most,
    )
