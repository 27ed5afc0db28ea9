use Rattle.std.proofs.Common.{rules, ℤ, pos, ◌∙◌, ap, FitsSigned, to_z-of_z, Some}
use Rattle.std.specs.Int.{w128}
use Rattle.units_core.specs.Ratio.{floor_of}
use Rattle.righting.specs.Levers.{simpson}
use Rattle.hydrostat.specs.Floating.{draught_at, load, water}
use Rattle.criteria.proofs.rounded.RoundedFigures.set.Goals as goal

pub returns-clause-figures : goal.returns-clause-figures
returns-clause-figures c =
    let a = c.args.a.now in
    let f1 : FitsSigned w128 c.gm_down-self.result = search rules in
    let f2 : FitsSigned w128 c.mean_down-self.result = search rules in
    let f3 : FitsSigned w128 c.aft_down-self.result = search rules in
    let f4 : FitsSigned w128 c.fwd_down-self.result = search rules in
    let f5 : FitsSigned w128 c.trim_down-self.result = search rules in
    let f6 : FitsSigned w128 c.area_figure-self.result = search rules in
    let f7 : FitsSigned w128 c.area_figure-self-2.result = search rules in
    let f8 : FitsSigned w128 c.area_figure-self-3.result = search rules in
    let f9 : FitsSigned w128 c.lever_down-self.result = search rules in
    let of = c.requires.of in
    record {
      floating = record {
        gm = to_z-of_z f1 ∙ c.gm_down-self.ensures;
        mean = to_z-of_z f2 ∙ c.mean_down-self.ensures;
        aft = to_z-of_z f3 ∙ (c.aft_down-self.ensures ∙ (λ j. floor_of (draught_at (water (of j)) (load (of j)) (of j).lbp (pos 0))));
        fwd = to_z-of_z f4 ∙ (c.fwd_down-self.ensures ∙ (λ j. floor_of (draught_at (water (of j)) (load (of j)) (of j).lbp (of j).lbp)));
        trim = to_z-of_z f5 ∙ c.trim_down-self.ensures;
        list = c.list_down-self.ensures;
      };
      righting = λ y are. record {
        area_30 = to_z-of_z f6 ∙ c.area_figure-self.ensures (simpson y 0 3) are.sum_30;
        area_40 = to_z-of_z f7 ∙ c.area_figure-self-2.ensures (simpson y 0 4) are.sum_40;
        area_30_40 = to_z-of_z f8 ∙ c.area_figure-self-3.ensures (simpson y 6 1) are.sum_30_40;
        lever = ap (λ (z : ℤ). Some z) (to_z-of_z f9) ∙ c.lever_down-self.ensures y are;
        angle = c.angle-self.ensures y are;
      };
    }
