use Rattle.std.proofs.Common.{rules, ◌∙◌, pos, ◌-ℤ◌, ◌*ℤ◌, ◌≤ℤ◌, FitsSigned, to_z-of_z, subst, sym, refl}
use Rattle.std.specs.Int.{w128}
use Rattle.units_core.specs.Ratio.{Is, ◌over◌}
use Rattle.view_figures.proofs.Parts.{rest_percent_most, rest_percent_sign}
use Rattle.view_figures.proofs.shares.rest_percent.Goals as goal

pub returns-clause-value : goal.returns-clause-value
returns-clause-value c =
    let n = c.args.share.num in
    let d = c.args.share.den in
    let m = n -ℤ (c.args.whole *ℤ d) in
    let fq : FitsSigned w128 c.args.whole = search rules in
    let fu : FitsSigned w128 c.up.result = search rules in
    let num = simp (to_z-of_z fq) at c.behind.ensures.num in
    let is : Is c.behind.result.num c.behind.result.den (m over d) = rw (num, c.behind.ensures.den) (c.args.share.positive, c.args.share.positive, refl) in
    to_z-of_z fu ∙ c.up.ensures (m over d) is

pub returns-clause-size : goal.returns-clause-size
returns-clause-size c =
    let n = c.args.share.num in
    let d = c.args.share.den in
    let q = c.args.whole in
    let value = returns-clause-value c in (
      subst (λ x. pos 0 ≤ℤ x) (sym value) (rest_percent_sign q n d c.args.share.positive c.requires.whole),
      subst (λ x. x ≤ℤ pos 100) (sym value) (rest_percent_most q n d c.args.share.positive c.requires.whole),
    )
