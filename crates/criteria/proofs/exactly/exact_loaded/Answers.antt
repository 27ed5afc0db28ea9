use Rattle.std.proofs.Common.{ap, refl, sym, subst, ℕ, Option, None, Some}
use Rattle.units_core.specs.Interpolation.{at}
use Rattle.units_core.specs.Ratio.{Ratio}
use Rattle.hydrostat.specs.Floating.{load, water}
use Rattle.criteria.specs.Assessment.{assessed, with_least}
use Rattle.criteria.specs.Criteria.{Condition, not_met}
use Rattle.criteria.specs.Met.{condition_of}
use Rattle.criteria.proofs.exactly.exact_loaded.Goals as goal

pub returns-in-Some : goal.returns-in-Some
returns-in-Some c =
    let a = c.args.a.now in
    let ship = c.args.profile.now.ship in
    λ loads y are. record {
      measures = c.measures_of.ensures y are;
      length = c.requires.length;
      small = c.in-Some.ensures.size;
      assessed = ap (λ (o : Option (Option Ratio)). with_least ship (water a) (load a) y loads.closing (λ i. at loads.shear i) (λ i. at loads.bending i) o) (sym c.in-Some.ensures.value);
    }

pub returns-in-None : goal.returns-in-None
returns-in-None c =
    let a = c.args.a.now in
    let ship = c.args.profile.now.ship in
    λ loads y are. ap (λ (o : Option (Option Ratio)). with_least ship (water a) (load a) y loads.closing (λ i. at loads.shear i) (λ i. at loads.bending i) o) (sym c.in-None.ensures.value)
