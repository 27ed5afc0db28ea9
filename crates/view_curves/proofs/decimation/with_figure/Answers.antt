use Rattle.std.proofs.Common.{rules, ◌≡◌, ◌∙◌, ap, sym, subst, Some, ℤ, FitsSigned, to_z-of_z}
use Rattle.std.specs.Int.{w128}
use Rattle.view_curves.specs.Decimation.{AreEnds, AreFound}
use Rattle.view_curves.proofs.Extremes.{ends_more}
use Rattle.view_curves.proofs.decimation.with_figure.Goals as goal

pub returns : goal.returns
returns c = λ curve s from here is.
    let q : FitsSigned w128 c.args.figure = search rules in
    let x = c.in-Some.ends in
    let are : AreEnds curve s c.args.k x = subst (AreFound curve s c.args.k) c.in-Some.is is in
    let there = here ∙ ap (λ (v : ℤ). Some v) (sym (to_z-of_z q)) in
    ends_more curve s c.args.k c.args.figure from here x c.lesser.result c.greater.result are
    (c.lesser.ensures curve s from there are.least)
    (c.greater.ensures curve s from there are.greatest)
