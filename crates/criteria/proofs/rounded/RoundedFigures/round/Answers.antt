use Rattle.std.proofs.Common.{◌∙◌, pos}
use Rattle.units_core.specs.Interpolation.{at}
use Rattle.units_core.specs.Ratio.{floor_of}
use Rattle.hydrostat.specs.Floating.{draught_at, load, water}
use Rattle.criteria.proofs.rounded.RoundedFigures.round.Goals as goal

pub returns : goal.returns
returns c =
    let a = c.args.exact.now.afloat in
    let len = c.requires in
    let f = c.set.ensures.figures.floating in
    let kept = c.set.ensures.strains in
    λ y are.
    let r = c.set.ensures.figures.righting y are in
    λ j. record {
      gm = f.gm j;
      mean = f.mean j;
      aft = (f.aft ∙ (λ i. floor_of (draught_at (water a) (load a) (len i) (pos 0)))) j;
      fwd = (f.fwd ∙ (λ i. floor_of (draught_at (water a) (load a) (len i) (len i)))) j;
      trim = f.trim j;
      list = f.list j;
      area_30 = r.area_30 j;
      area_40 = r.area_40 j;
      area_30_40 = r.area_30_40 j;
      lever = r.lever j;
      angle = r.angle j;
      closing = (kept j).closing;
      shear = λ i. at (kept j).shear i;
      bending = λ i. at (kept j).bending i;
    }
