use Rattle.std.proofs.Common.{rules, ◌∙◌, FitsSigned, to_z-of_z}
use Rattle.std.specs.Int.{w32, w128}
use Rattle.units_core.specs.Ratio.{floor_of}
use Rattle.hydrostat.specs.Floating.{draught_at, load, water}
use Rattle.units_core.proofs.Decisions.{floor_same}
use Rattle.hydrostat.proofs.draught_lines.DraughtLine.draught_down.Goals as goal

pub returns-in-None : goal.returns-in-None
returns-in-None c =
    let a = c.args.self.now.of in
    let q : FitsSigned w128 c.floor.result = search rules in
    let m : FitsSigned w128 c.from-in-None.result = search rules in
    let g : FitsSigned w32 c.get.result = search rules in
    to_z-of_z q ∙ (c.floor.ensures.value ∙ (floor_same c.draught.result.num c.draught.result.den _ c.draught.ensures.value
    ∙ (λ j. floor_of (draught_at (water a) (load a) a.lbp ((to_z-of_z m ∙ (c.from-in-None.ensures ∙ (to_z-of_z g ∙ c.get.ensures.value))) j)))))
