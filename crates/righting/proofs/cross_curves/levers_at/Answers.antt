use Rattle.std.proofs.Common.{rules, ◌∙◌, ℤ, FitsSigned, to_z, of_z, to_z-of_z}
use Rattle.std.specs.Int.{w128}
use Rattle.moment_sums.specs.Kept.{values}
use Rattle.moment_sums.specs.Sum.{Weight}
use Rattle.righting.specs.Aboard.{IsCrossing}
use Rattle.righting.proofs.Crossed.{ordinates}
use Rattle.righting.proofs.cross_curves.levers_at.Goals as goal

pub returns : goal.returns
returns c =
    let s = values c.args.totals.now in
    let t = c.args.curves.now in
    let k : FitsSigned w128 c.kg.result = search rules in
    let y : FitsSigned w128 c.y.result = search rules in
    let u : FitsSigned w128 c.upright.result = search rules in
    let cross = simp (to_z-of_z k) at c.crossing_at-crossing.ensures in
    let here : IsCrossing c.crossing_at-crossing.result t (s Weight) c.args.i = rw c.kg.ensures at cross in
    let read_y : ℤ = to_z w128 (of_z w128 c.y.result) in
    let read_u : ℤ = to_z w128 (of_z w128 c.upright.result) in
    ordinates t s c.args.i c.crossing_at-crossing.result c.levers.result.num c.levers.result.den read_u read_y here (to_z-of_z u ∙ c.upright.ensures.value) (to_z-of_z y ∙ c.y.ensures) c.levers.ensures
