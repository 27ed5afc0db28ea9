use Rattle.std.proofs.Common.{◌∙◌, pos}
use Rattle.hydrostat.specs.Floating.{gm, load, water}
use Rattle.units_core.proofs.Decisions.{at_least_same}
use Rattle.criteria.proofs.decisions.is_stiff.Goals as goal

pub returns : goal.returns
returns c = c.reaches.ensures ∙ at_least_same c.gm_of.result.num c.gm_of.result.den (gm (water c.args.a.now) (load c.args.a.now)) (pos 150) c.gm_of.ensures.value
