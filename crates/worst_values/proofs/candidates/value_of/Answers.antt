use Rattle.std.proofs.Common.{◌≡◌, ◌∙◌, ℕ, pos, List, Option, option_map, ap, sym, FitsSigned, to_z, of_z, to_z-of_z, rules}
use Rattle.std.specs.Int.{w64, w128}
use Rattle.units_core.specs.Ratio.{Ratio, whole}
use Rattle.units_core.specs.declared.frames.Frame.{Frame}
use Rattle.units_core.specs.Interpolation.{at}
use Rattle.hydrostat.specs.Floating.{draught_at, gm, load, trim, water}
use Rattle.righting.specs.Levers.{greatest_of, simpson}
use Rattle.criteria.specs.Exact.{condition_by}
use Rattle.worst_values.specs.declared.limits.Limit.{Limit}
use Rattle.worst_values.specs.Limits.{alone, bendings, by, candidates_of, number_alone, opposite, shears, size_below}
use Rattle.worst_values.specs.Worst.{Candidate, candidate_of, worst_of}
use Rattle.worst_values.proofs.MeasureLemmas.{by_ordinate}
use Rattle.worst_values.proofs.candidates.value_of.Goals as goal

pub returns-in-Closing : goal.returns-in-Closing
returns-in-Closing c =
    let a = c.args.exact.now.afloat in
    let k = c.args.strains.now.closing in
    let g : FitsSigned w64 k = search rules in
    let f : FitsSigned w128 c.from.result = search rules in
    let wide : to_z w128 (of_z w128 c.from.result) ≡ k = to_z-of_z f ∙ (c.from.ensures ∙ to_z-of_z g) in
    let is = simp wide at c.whole.ensures in
    λ y are.
    c.alone.ensures (size_below (whole k)) (c.below_zero.ensures (whole k) is)
    ∙ ap (λ (l : Limit). worst_of (candidates_of c.args.profile.now.ship (condition_by c.args.exact.now y c.args.strains.now) l c.args.step)) (sym c.in-Closing.is)

pub returns-in-Gm : goal.returns-in-Gm
returns-in-Gm c =
    let a = c.args.exact.now.afloat in
    λ y are.
    c.alone-in-Gm.ensures (gm (water a) (load a)) c.gm_of.ensures.value
    ∙ ap (λ (l : Limit). worst_of (candidates_of c.args.profile.now.ship (condition_by c.args.exact.now y c.args.strains.now) l c.args.step)) (sym c.in-Gm.is)

pub returns-in-AreaTo30 : goal.returns-in-AreaTo30
returns-in-AreaTo30 c =
    let a = c.args.exact.now.afloat in
    λ y are.
    c.alone-in-AreaTo30.ensures (simpson y 0 3) are.sum_30
    ∙ ap (λ (l : Limit). worst_of (candidates_of c.args.profile.now.ship (condition_by c.args.exact.now y c.args.strains.now) l c.args.step)) (sym c.in-AreaTo30.is)

pub returns-in-AreaTo40 : goal.returns-in-AreaTo40
returns-in-AreaTo40 c =
    let a = c.args.exact.now.afloat in
    λ y are.
    c.alone-in-AreaTo40.ensures (simpson y 0 4) are.sum_40
    ∙ ap (λ (l : Limit). worst_of (candidates_of c.args.profile.now.ship (condition_by c.args.exact.now y c.args.strains.now) l c.args.step)) (sym c.in-AreaTo40.is)

pub returns-in-Area30To40 : goal.returns-in-Area30To40
returns-in-Area30To40 c =
    let a = c.args.exact.now.afloat in
    λ y are.
    c.alone-in-Area30To40.ensures (simpson y 6 1) are.sum_30_40
    ∙ ap (λ (l : Limit). worst_of (candidates_of c.args.profile.now.ship (condition_by c.args.exact.now y c.args.strains.now) l c.args.step)) (sym c.in-Area30To40.is)

pub returns-in-Lever : goal.returns-in-Lever
returns-in-Lever c =
    let a = c.args.exact.now.afloat in
    let best = c.args.exact.now.curve.best in
    λ y are.
    by_ordinate c.args.step best.num best.den y (greatest_of y 6 7) (option_map candidate_of c.alone-in-Lever.result) are.best c.alone-in-Lever.ensures
    ∙ ap (λ (l : Limit). worst_of (candidates_of c.args.profile.now.ship (condition_by c.args.exact.now y c.args.strains.now) l c.args.step)) (sym c.in-Lever.is)

pub returns-in-PeakAngle : goal.returns-in-PeakAngle
returns-in-PeakAngle c =
    let a = c.args.exact.now.afloat in
    let i = c.args.exact.now.curve.greatest in
    λ y are.
    c.alone-in-PeakAngle.ensures (whole (pos i)) c.number_of.ensures
    ∙ ap (λ (o : Option ℕ). worst_of (number_alone c.args.step o)) (sym are.greatest)
    ∙ ap (λ (l : Limit). worst_of (candidates_of c.args.profile.now.ship (condition_by c.args.exact.now y c.args.strains.now) l c.args.step)) (sym c.in-PeakAngle.is)

pub returns-in-List : goal.returns-in-List
returns-in-List c =
    let a = c.args.exact.now.afloat in
    λ y are.
    c.list_value.ensures
    ∙ ap (λ (l : Limit). worst_of (candidates_of c.args.profile.now.ship (condition_by c.args.exact.now y c.args.strains.now) l c.args.step)) (sym c.in-List.is)

pub returns-in-DraughtAft : goal.returns-in-DraughtAft
returns-in-DraughtAft c =
    let a = c.args.exact.now.afloat in
    λ y are.
    c.alone-in-DraughtAft.ensures (opposite (draught_at (water a) (load a) a.lbp (pos 0))) (c.opposite.ensures (draught_at (water a) (load a) a.lbp (pos 0)) c.draught.ensures.value)
    ∙ (λ j. worst_of (alone c.args.step (by (opposite (draught_at (water a) (load a) (c.requires.length j) (pos 0))))))
    ∙ ap (λ (l : Limit). worst_of (candidates_of c.args.profile.now.ship (condition_by c.args.exact.now y c.args.strains.now) l c.args.step)) (sym c.in-DraughtAft.is)

pub returns-in-DraughtForward : goal.returns-in-DraughtForward
returns-in-DraughtForward c =
    let a = c.args.exact.now.afloat in
    let f : FitsSigned w128 a.lbp = search rules in
    let value = simp (to_z-of_z f) at c.draught-in-DraughtForward.ensures.value in
    λ y are.
    c.alone-in-DraughtForward.ensures (opposite (draught_at (water a) (load a) a.lbp a.lbp)) (c.opposite-in-DraughtForward.ensures (draught_at (water a) (load a) a.lbp a.lbp) value)
    ∙ (λ j. worst_of (alone c.args.step (by (opposite (draught_at (water a) (load a) (c.requires.length j) (c.requires.length j))))))
    ∙ ap (λ (l : Limit). worst_of (candidates_of c.args.profile.now.ship (condition_by c.args.exact.now y c.args.strains.now) l c.args.step)) (sym c.in-DraughtForward.is)

pub returns-in-Trim : goal.returns-in-Trim
returns-in-Trim c =
    let a = c.args.exact.now.afloat in
    λ y are.
    c.alone-in-Trim.ensures (size_below (trim (water a) (load a))) (c.below_zero-in-Trim.ensures (trim (water a) (load a)) c.trim_of.ensures.value)
    ∙ ap (λ (l : Limit). worst_of (candidates_of c.args.profile.now.ship (condition_by c.args.exact.now y c.args.strains.now) l c.args.step)) (sym c.in-Trim.is)

pub returns-in-Shear : goal.returns-in-Shear
returns-in-Shear c =
    let a = c.args.exact.now.afloat in
    λ y are.
    c.worst_shear.ensures
    ∙ ap (λ (frames : List Frame). worst_of (shears (λ i. at c.args.strains.now.shear i) c.args.step frames 0)) (c.as_slice.ensures.value ∙ c.frames.ensures.value)
    ∙ ap (λ (l : Limit). worst_of (candidates_of c.args.profile.now.ship (condition_by c.args.exact.now y c.args.strains.now) l c.args.step)) (sym c.in-Shear.is)

pub returns-in-Bending : goal.returns-in-Bending
returns-in-Bending c =
    let a = c.args.exact.now.afloat in
    λ y are.
    c.worst_bending.ensures
    ∙ ap (λ (frames : List Frame). worst_of (bendings (λ i. at c.args.strains.now.bending i) c.args.step frames 0)) (c.as_slice-in-Bending.ensures.value ∙ c.frames-in-Bending.ensures.value)
    ∙ ap (λ (l : Limit). worst_of (candidates_of c.args.profile.now.ship (condition_by c.args.exact.now y c.args.strains.now) l c.args.step)) (sym c.in-Bending.is)

pub returns-in-LeastGm : goal.returns-in-LeastGm
returns-in-LeastGm c =
    let a = c.args.exact.now.afloat in
    λ y are.
    c.spare_value.ensures
    ∙ ap (λ (l : Limit). worst_of (candidates_of c.args.profile.now.ship (condition_by c.args.exact.now y c.args.strains.now) l c.args.step)) (sym c.in-LeastGm.is)
