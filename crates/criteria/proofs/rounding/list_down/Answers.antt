use Rattle.std.proofs.Common.{rules, ℤ, ◌∙◌, ap, FitsSigned, to_z-of_z, Some}
use Rattle.std.specs.Int.{w128}
use Rattle.hydrostat.specs.Floating.{gm, load, water}
use Rattle.criteria.proofs.Comparing.{is_positive}
use Rattle.criteria.proofs.rounding.list_down.Goals as goal

pub returns-in-Some : goal.returns-in-Some
returns-in-Some c =
    let a = c.args.a.now in
    let q : FitsSigned w128 c.figure.result = search rules in
    rw (is_positive (gm (water a) (load a)).top c.in-Some.ensures.0) (ap (λ (z : ℤ). Some z) (to_z-of_z q ∙ c.figure.ensures _ c.in-Some.ensures.1))
