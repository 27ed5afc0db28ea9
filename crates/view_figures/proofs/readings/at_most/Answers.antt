use Rattle.std.proofs.Common.{rules, ◌∙◌, FitsSigned, to_z-of_z}
use Rattle.std.specs.Int.{w128}
use Rattle.units_core.specs.Ratio.{◌⊖◌}
use Rattle.view_figures.proofs.readings.at_most.Goals as goal

pub returns : goal.returns
returns c =
    let a : FitsSigned w128 c.units_up.result = search rules in
    let b : FitsSigned w128 c.units_up-2.result = search rules in
    let d : FitsSigned w128 c.units_down.result = search rules in
    λ v l p q. λ i. record {
      value = (to_z-of_z a ∙ c.units_up.ensures v p) i;
      limit = (to_z-of_z b ∙ c.units_up-2.ensures l q) i;
      margin = (to_z-of_z d ∙ c.units_down.ensures (l ⊖ v) (c.difference.ensures l v q p)) i;
    }
