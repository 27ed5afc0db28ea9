use Rattle.std.proofs.Common.{◌∙◌, List, length, Option, ap, subst, sym}
use Rattle.units_core.specs.Interpolation.{at}
use Rattle.units_core.specs.Ratio.{Ratio}
use Rattle.units_core.specs.declared.frames.Frame.{Frame}
use Rattle.hydrostat.specs.Floating.{load, water}
use Rattle.strength.specs.Loads.{AreLoadsAt}
use Rattle.criteria.specs.Assessment.{assessed, with_least}
use Rattle.criteria.specs.Criteria.{Condition}
use Rattle.criteria.specs.Figures.{AreFigures, IsVerdict}
use Rattle.criteria.specs.Met.{condition_of}
use Rattle.criteria.specs.declared.criterion.Criterion.{Criterion}
use Rattle.criteria.specs.declared.figures.Figures.{Figures}
use Rattle.criteria.proofs.verdicts.verdict_loaded.Goals as goal

pub returns-in-Some : goal.returns-in-Some
returns-in-Some c =
    let a = c.args.floating.now.afloat in
    let s = c.args.strains.now in
    let ship = c.args.profile.now.ship in
    let many = ap (λ (fs : List Frame). length fs) (c.as_slice.ensures.value ∙ c.frames.ensures.value) in
    let figures : Figures = record { floating = c.args.floating.now; levers = c.args.levers.now; loads = c.loads.result } in
    λ y are.
    let condition : Condition = condition_of a y s c.in-Some.least in
    let are_figures : AreFigures figures ship condition = record {
      floating = c.requires.floating;
      levers = are;
      loads = subst (λ n. AreLoadsAt c.loads.result (λ i. at s.shear i) (λ i. at s.bending i) n s.closing) many c.loads.ensures;
    } in
    subst (λ (o : Option (Option Ratio)). IsVerdict c.verdict_of.result ship (with_least ship (water a) (load a) y s.closing (λ i. at s.shear i) (λ i. at s.bending i) o)) c.in-Some.ensures.value
    (subst (λ (k : Option Criterion). IsVerdict c.verdict_of.result ship (assessed k condition)) (c.first_not_met-first.ensures y (c.measures_of-curve.ensures y are))
    (c.verdict_of.ensures ship condition are_figures))

pub returns-in-None : goal.returns-in-None
returns-in-None c =
    let a = c.args.floating.now.afloat in
    let s = c.args.strains.now in
    λ y are. ap (λ (o : Option (Option Ratio)). with_least c.args.profile.now.ship (water a) (load a) y s.closing (λ i. at s.shear i) (λ i. at s.bending i) o) (sym c.in-None.ensures.value)
