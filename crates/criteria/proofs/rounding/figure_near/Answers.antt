use Rattle.std.proofs.Common.{rules, ◌∙◌, FitsSigned, to_z-of_z}
use Rattle.std.specs.Int.{w128}
use Rattle.units_core.proofs.Decisions.{floor_same}
use Rattle.criteria.proofs.rounding.figure_near.Goals as goal

pub returns : goal.returns
returns c = λ r p.
    let q : FitsSigned w128 c.floor_near.result = search rules in
    simp (to_z-of_z q) (c.floor_near.ensures ∙ floor_same c.args.fraction.num c.args.fraction.den r p)
