use Rattle.std.proofs.Common.{rules, ◌∙◌, ap, sym, Some, ℤ, FitsSigned, to_z-of_z}
use Rattle.std.specs.Int.{w128}
use Rattle.view_curves.proofs.decimation.with_next.Goals as goal

pub returns-in-Some : goal.returns-in-Some
returns-in-Some c = λ curve s from here is.
    let q : FitsSigned w128 c.in-Some.figure = search rules in
    c.with_figure.ensures curve s from (here ∙ (c.in-Some.is ∙ ap (λ (v : ℤ). Some v) (sym (to_z-of_z q)))) is
