use Rattle.std.proofs.Common.{rules, FitsSigned, to_z-of_z}
use Rattle.std.specs.Int.{w128}
use Rattle.righting.specs.Levers.{greatest_of}
use Rattle.criteria.proofs.Comparing.{ordinate_down}
use Rattle.criteria.proofs.rounding.lever_down.Goals as goal

pub returns : goal.returns
returns c =
    let best = c.args.curve.now.best in
    let q : FitsSigned w128 c.figure_near.result = search rules in
    λ y are. simp (to_z-of_z q) (ordinate_down c.figure_near.result best.num best.den y (greatest_of y 6 7) c.figure_near.ensures are.best)
