use Rattle.std.proofs.Common.{◌∙◌, ap, sym, Option}
use Rattle.std.specs.Option.{option_map}
use Rattle.units_core.specs.Ratio.{◌over◌}
use Rattle.units_core.specs.declared.fractions.Frac.{Frac}
use Rattle.criteria.specs.Criteria.{least_holds}
use Rattle.hydrostat.specs.Floating.{gm, load, water}
use Rattle.criteria.proofs.Comparing.{no_more_is}
use Rattle.criteria.proofs.decisions.least_holds.Goals as goal

pub returns-in-Some : goal.returns-in-Some
returns-in-Some c =
    c.is_no_more.ensures ∙ no_more_is c.in-Some.least.num c.in-Some.least.den c.gm_of.result.num c.gm_of.result.den (gm (water c.args.a.now) (load c.args.a.now)) c.gm_of.ensures.value ∙ ap (λ (o : Option Frac). least_holds (option_map (λ (f : Frac). f.num over f.den) o) (gm (water c.args.a.now) (load c.args.a.now))) (sym c.in-Some.is)
