use Rattle.std.proofs.Common.{◌∙◌, to_z-of_z}
use Rattle.righting.specs.Levers.{greatest_of}
use Rattle.criteria.proofs.Comparing.{ordinate_reaches}
use Rattle.criteria.proofs.levers.lever_reaches.Goals as goal

pub returns : goal.returns
returns c =
    λ y are.
    let l = c.ranges.limit in
    let best = c.args.curve.now.best in
    (simp (to_z-of_z l) at c.reaches.ensures)
    ∙ ordinate_reaches best.num best.den y c.args.limit (greatest_of y 6 7) are.best
