use Rattle.std.proofs.Common.{rules, ◌∙◌, ap, sym, subst, refl, get_or, ℕ, ℤ, pos, FitsSigned, to_z, to_z-of_z}
use Rattle.std.specs.Int.{int_max, w64, w128}
use Rattle.units_core.specs.Interpolation.{at}
use Rattle.units_core.specs.declared.frames.Frame.{Frame}
use Rattle.view_curves.specs.Series.{percent_of, shear_percent, shear_percents}
use Rattle.view_curves.proofs.PercentLemmas.{frame_more}
use Rattle.view_curves.proofs.walks.shear_percent.Goals as goal

pub loop-i-preserved : goal.loop-i-preserved
loop-i-preserved c =
    let shear : ℕ → ℤ = λ i. at c.args.shear.now i in
    let frames = c.args.frames.now in
    let frame = c.index-frames-i.result in
    let load = get_or c.args.shear.now c.loop-i.i (pos 0) in
    let r : FitsSigned w128 c.percent_with-most.result = search rules in
    let h : FitsSigned w64 load = search rules in
    let w : FitsSigned w128 c.from.result = search rules in
    let f = to_z-of_z w ∙ (c.from.ensures ∙ to_z-of_z h) in
    let own : FitsSigned w64 frame.shear_max = search rules in
    let g = subst (λ (fr : Frame). FitsSigned w64 fr.shear_max) c.index-frames-i.is own in
    let step = c.percent_with-most.ensures ∙ (λ i. int_max (to_z w128 c.loop-i.most-bits) (percent_of (f i) (to_z-of_z g i))) ∙ (λ i. int_max (to_z w128 c.loop-i.most-bits) (percent_of load (sym c.index-frames-i.is i).shear_max)) in
    simp (to_z-of_z r)
    (frame_more (λ (i : ℕ) (fr : Frame). percent_of (shear i) fr.shear_max) (shear_percents shear) (λ i fr more. refl) frames c.loop-i.i frame
    _ c.percent_with-most.result (shear_percent shear frames) c.loop-i-test.true c.index-frames-i.is c.loop-i.invariant step)
