use Rattle.std.proofs.Common.{◌∙◌, List, ap, sym}
use Rattle.units_core.specs.Interpolation.{at}
use Rattle.units_core.specs.declared.frames.Frame.{Frame}
use Rattle.righting.specs.Levers.{simpson}
use Rattle.criteria.specs.declared.criterion.Criterion.{Criterion}
use Rattle.criteria.specs.Criteria.{bending_holds, every, holds, shear_holds}
use Rattle.criteria.specs.Met.{condition_of}
use Rattle.criteria.proofs.holding.holds.Goals as goal

pub returns-in-C2 : goal.returns-in-C2
returns-in-C2 c = λ y are.
    c.area_holds.ensures (simpson y 0 3) are.sum_30
    ∙ ap (λ (k : Criterion). holds c.args.profile.now.ship (condition_of c.args.a.now y c.args.strains.now c.args.least) k) (sym c.in-C2.is)

pub returns-in-C3 : goal.returns-in-C3
returns-in-C3 c = λ y are.
    c.area_holds-in-C3.ensures (simpson y 0 4) are.sum_40
    ∙ ap (λ (k : Criterion). holds c.args.profile.now.ship (condition_of c.args.a.now y c.args.strains.now c.args.least) k) (sym c.in-C3.is)

pub returns-in-C4 : goal.returns-in-C4
returns-in-C4 c = λ y are.
    c.area_holds-in-C4.ensures (simpson y 6 1) are.sum_30_40
    ∙ ap (λ (k : Criterion). holds c.args.profile.now.ship (condition_of c.args.a.now y c.args.strains.now c.args.least) k) (sym c.in-C4.is)

pub returns-in-C9 : goal.returns-in-C9
returns-in-C9 c = λ y are.
    c.shear_holds.ensures
    ∙ ap (λ (frames : List Frame). every (shear_holds (λ i. at c.args.strains.now.shear i)) frames 0) (c.as_slice.ensures.value ∙ c.frames.ensures.value)
    ∙ ap (λ (k : Criterion). holds c.args.profile.now.ship (condition_of c.args.a.now y c.args.strains.now c.args.least) k) (sym c.in-C9.is)

pub returns-in-C10 : goal.returns-in-C10
returns-in-C10 c = λ y are.
    c.bending_holds.ensures
    ∙ ap (λ (frames : List Frame). every (bending_holds (λ i. at c.args.strains.now.bending i)) frames 0) (c.as_slice-in-C10.ensures.value ∙ c.frames-in-C10.ensures.value)
    ∙ ap (λ (k : Criterion). holds c.args.profile.now.ship (condition_of c.args.a.now y c.args.strains.now c.args.least) k) (sym c.in-C10.is)
