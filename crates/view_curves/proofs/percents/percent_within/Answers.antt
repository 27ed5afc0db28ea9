use Rattle.std.proofs.Common.{rules, ◌∙◌, ap, sym, ℤ, pos, ◌*ℤ◌, ◌≤ℤ◌, ◌<ℤ◌, FitsSigned, to_z-of_z, arith}
use Rattle.std.specs.Int.{w64, w128}
use Rattle.units_core.proofs.Signed.{signed_arith}
use Rattle.units_core.specs.Ratio.{◌over◌}
use Rattle.view_curves.specs.Series.{at_most_999}
use Rattle.view_curves.proofs.PercentLemmas.{most_drawn, whole_drawn}
use Rattle.view_curves.proofs.percents.percent_within.Goals as goal

pub returns-then-percent-lt-MOST : goal.returns-then-percent-lt-MOST
returns-then-percent-lt-MOST c =
    let z = c.up-percent.result in
    let r : FitsSigned w128 z = search rules in
    let s : FitsSigned w128 c.args.size = search rules in
    let d : FitsSigned w128 c.from.result = search rules in
    let m : FitsSigned w64 c.args.most = search rules in
    let from = (simp (to_z-of_z m) at c.from.ensures) in
    let by = (simp (to_z-of_z s, to_z-of_z d) at c.up-percent.ensures) in
    let some : pos 1 ≤ℤ c.from.result = omega (arith, signed_arith, from, c.requires.most) in
    let is = by (c.args.size over c.args.most) (some, c.requires.most, ap (λ (n : ℤ). c.args.size *ℤ n) (sym from)) in
    let less : z <ℤ pos 999 = omega (arith, signed_arith, simp (to_z-of_z r) at c.if-percent-lt-MOST.true) in
    simp (to_z-of_z r) (whole_drawn z less ∙ ap at_most_999 is)

pub returns-else-percent-lt-MOST : goal.returns-else-percent-lt-MOST
returns-else-percent-lt-MOST c =
    let z = c.up-percent.result in
    let r : FitsSigned w128 z = search rules in
    let s : FitsSigned w128 c.args.size = search rules in
    let d : FitsSigned w128 c.from.result = search rules in
    let m : FitsSigned w64 c.args.most = search rules in
    let from = (simp (to_z-of_z m) at c.from.ensures) in
    let by = (simp (to_z-of_z s, to_z-of_z d) at c.up-percent.ensures) in
    let some : pos 1 ≤ℤ c.from.result = omega (arith, signed_arith, from, c.requires.most) in
    let is = by (c.args.size over c.args.most) (some, c.requires.most, ap (λ (n : ℤ). c.args.size *ℤ n) (sym from)) in
    let more : pos 999 ≤ℤ z = omega (arith, signed_arith, simp (to_z-of_z r) at c.if-percent-lt-MOST.false) in
    most_drawn z more ∙ ap at_most_999 is
