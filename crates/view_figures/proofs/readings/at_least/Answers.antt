use Rattle.std.proofs.Common.{rules, ◌∙◌, FitsSigned, to_z-of_z}
use Rattle.std.specs.Int.{w128}
use Rattle.units_core.specs.Ratio.{◌⊖◌}
use Rattle.view_figures.proofs.readings.at_least.Goals as goal

pub returns : goal.returns
returns c =
    let a : FitsSigned w128 c.units_down.result = search rules in
    let b : FitsSigned w128 c.units_down-2.result = search rules in
    let d : FitsSigned w128 c.units_down-3.result = search rules in
    λ v l p q. λ i. record {
      value = (to_z-of_z a ∙ c.units_down.ensures v p) i;
      limit = (to_z-of_z b ∙ c.units_down-2.ensures l q) i;
      margin = (to_z-of_z d ∙ c.units_down-3.ensures (v ⊖ l) (c.difference.ensures v l p q)) i;
    }
