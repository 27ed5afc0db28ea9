use Rattle.std.proofs.Common.{◌≡◌, ◌∙◌, ℤ, ap, pos, refl, Option, None, Some}
use Rattle.units_core.specs.Interpolation.{at}
use Rattle.units_core.specs.Ratio.{Ratio, floor_of}
use Rattle.hydrostat.specs.Floating.{draught_at, load, water}
use Rattle.criteria.specs.Assessment.{assessed, with_least}
use Rattle.criteria.specs.Criteria.{Condition, not_met}
use Rattle.criteria.specs.Met.{condition_of}
use Rattle.criteria.specs.Judgement.{judged, printed_of, read, rounded}
use Rattle.criteria.specs.declared.criterion.Criterion.{Criterion}
use Rattle.criteria.proofs.judging.judge_loaded.Goals as goal

-- the rounded figures beside what was found are those of the exact judgement
by_criterion : (lbp : ℤ) (o : Option Criterion) (c : Condition) → judged o (printed_of lbp c) ≡ rounded lbp (assessed o c)
by_criterion lbp None c = refl
by_criterion lbp (Some criterion) c = refl

pub returns-in-Some : goal.returns-in-Some
returns-in-Some c =
    let a = c.args.a.now in
    let s = c.args.figures.now.strains in
    let ship = c.args.profile.now.ship in
    let len = c.requires.length in
    let f = c.set.ensures.figures.floating in
    let kept = c.set.ensures.strains in
    λ y are.
    let measures = c.measures_of-curve.ensures y are in
    let r = c.set.ensures.figures.righting y measures in
    let condition : Condition = condition_of a y s c.in-Some.least in
    let figures : read c.set.new.self ≡ printed_of ship.lbp condition = λ j. record {
      gm = f.gm j;
      mean = f.mean j;
      aft = (f.aft ∙ (λ i. floor_of (draught_at (water a) (load a) (len i) (pos 0)))) j;
      fwd = (f.fwd ∙ (λ i. floor_of (draught_at (water a) (load a) (len i) (len i)))) j;
      trim = f.trim j;
      list = f.list j;
      area_30 = r.area_30 j;
      area_40 = r.area_40 j;
      area_30_40 = r.area_30_40 j;
      lever = r.lever j;
      angle = r.angle j;
      closing = (kept j).closing;
      shear = λ i. at (kept j).shear i;
      bending = λ i. at (kept j).bending i;
    } in
    (λ j. judged ((c.first_not_met.ensures y measures ∙ (λ i. not_met ship (condition_of a y (kept i) c.in-Some.least))) j) (figures j))
    ∙ (by_criterion ship.lbp (not_met ship condition) condition
    ∙ ap (λ (o : Option (Option Ratio)). rounded ship.lbp (with_least ship (water a) (load a) y s.closing (λ i. at s.shear i) (λ i. at s.bending i) o)) c.in-Some.ensures.value)

pub returns-in-None : goal.returns-in-None
returns-in-None c =
    let a = c.args.a.now in
    let s = c.args.figures.now.strains in
    let ship = c.args.profile.now.ship in
    λ y are. ap (λ (o : Option (Option Ratio)). rounded ship.lbp (with_least ship (water a) (load a) y s.closing (λ i. at s.shear i) (λ i. at s.bending i) o)) c.in-None.ensures.value
