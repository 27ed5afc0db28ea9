use Rattle.std.proofs.Common.{rules, ◌∙◌, FitsSigned, to_z-of_z}
use Rattle.std.specs.Int.{w64, w128}
use Rattle.units_core.specs.Ratio.{Is}
use Rattle.view_figures.specs.Readings.{in_radians}
use Rattle.view_figures.proofs.areas.area_reading.Goals as goal

pub returns : goal.returns
returns c =
    let a : FitsSigned w128 c.in_radians.result = search rules in
    let b : FitsSigned w128 c.in_radians-2.result = search rules in
    let d : FitsSigned w128 c.in_radians-3.result = search rules in
    let fv : FitsSigned w128 c.at_least_whole-fine.result.value = search rules in
    let fl : FitsSigned w128 c.at_least_whole-fine.result.limit = search rules in
    let fm : FitsSigned w128 c.at_least_whole-fine.result.margin = search rules in
    let fw : FitsSigned w64 c.args.limit = search rules in
    λ v p.
    let area : Is c.fine_area.result.num c.fine_area.result.den v = rw (c.fine_area.ensures.num, c.fine_area.ensures.den) p in
    let fine = simp (to_z-of_z fw) at (c.at_least_whole-fine.ensures v area) in
    λ i. record {
      value = (to_z-of_z a ∙ c.in_radians.ensures ∙ (λ j. in_radians (to_z-of_z fv j)) ∙ (λ j. in_radians ((fine j).value))) i;
      limit = (to_z-of_z b ∙ c.in_radians-2.ensures ∙ (λ j. in_radians (to_z-of_z fl j)) ∙ (λ j. in_radians ((fine j).limit))) i;
      margin = (to_z-of_z d ∙ c.in_radians-3.ensures ∙ (λ j. in_radians (to_z-of_z fm j)) ∙ (λ j. in_radians ((fine j).margin))) i;
    }
