use Rattle.std.proofs.Common.{rules, ◌∙◌, ap, refl, get_or, ℕ, ℤ, pos, FitsSigned, to_z, to_z-of_z}
use Rattle.std.specs.Int.{int_max, w64, w128}
use Rattle.units_core.specs.Interpolation.{at}
use Rattle.units_core.specs.declared.frames.Frame.{Frame}
use Rattle.worst_values.specs.Limits.{bending_limit}
use Rattle.view_curves.specs.Series.{bending_percent, bending_percents, percent_of}
use Rattle.view_curves.proofs.PercentLemmas.{frame_more}
use Rattle.view_curves.proofs.walks.bending_percent.Goals as goal

pub loop-i-preserved : goal.loop-i-preserved
loop-i-preserved c =
    let bending : ℕ → ℤ = λ i. at c.args.bending.now i in
    let frames = c.args.frames.now in
    let load = get_or c.args.bending.now c.loop-i.i (pos 0) in
    let r : FitsSigned w128 c.percent_with-most.result = search rules in
    let h : FitsSigned w64 load = search rules in
    let w : FitsSigned w128 c.from.result = search rules in
    let f = to_z-of_z w ∙ (c.from.ensures ∙ to_z-of_z h) in
    let g : FitsSigned w64 c.bending_limit.result = search rules in
    let limit = simp (to_z-of_z h) at c.bending_limit.ensures in
    let step = c.percent_with-most.ensures ∙ (λ i. int_max (to_z w128 c.loop-i.most-bits) (percent_of (f i) (to_z-of_z g i))) ∙ (λ i. int_max (to_z w128 c.loop-i.most-bits) (percent_of load (limit i))) in
    simp (to_z-of_z r)
    (frame_more (λ (i : ℕ) (fr : Frame). percent_of (bending i) (bending_limit fr (bending i))) (bending_percents bending) (λ i fr more. refl) frames c.loop-i.i c.index-frames-i.result
    _ c.percent_with-most.result (bending_percent bending frames) c.loop-i-test.true c.index-frames-i.is c.loop-i.invariant step)
