use Rattle.std.proofs.Common.{rules, arith, ◌∙◌, pos, ◌+ℤ◌, ◌*ℤ◌, FitsSigned, to_z-of_z}
use Rattle.std.specs.Prelude.{slice_index_or}
use Rattle.std.specs.Int.{w64}
use Rattle.std.proofs.lemmas.Int.{fits_signed_from_abs}
use Rattle.units_core.specs.Interpolation.{at}
use Rattle.units_core.proofs.Signed.{sum_within}
use Rattle.strength.proofs.Weights.{volumes_are}
use Rattle.strength.proofs.sums.volume_aft.Goals as goal

pub overflow_add-result : goal.overflow_add-result
overflow_add-result c =
    let inside = c.requires.inside in
    let v : FitsSigned w64 (slice_index_or c.args.walk.now.volumes c.args.n (pos 0)) = search rules in
    let b : FitsSigned w64 c.volume_by.result = search rules in
    let size = sum_within (at c.args.walk.now.volumes c.args.n) c.volume_by.result _ _ (c.requires.sums.volumes_within c.args.n (omega (arith, inside))) c.volume_by.ensures.size in
    simp (to_z-of_z v, to_z-of_z b) (fits_signed_from_abs w64 _ (omega (arith, size)))

pub returns-clause-value : goal.returns-clause-value
returns-clause-value c =
    let n = c.args.n in
    let found = at c.args.walk.now.areas in
    let inside = c.requires.inside in
    let v : FitsSigned w64 (slice_index_or c.args.walk.now.volumes n (pos 0)) = search rules in
    let a : FitsSigned w64 (slice_index_or c.args.walk.now.areas n (pos 0)) = search rules in
    let b : FitsSigned w64 c.volume_by.result = search rules in
    let w : FitsSigned w64 c.args.weight = search rules in
    let size = sum_within (at c.args.walk.now.volumes n) c.volume_by.result _ _ (c.requires.sums.volumes_within n (omega (arith, inside))) c.volume_by.ensures.size in
    let s : FitsSigned w64 (at c.args.walk.now.volumes n +ℤ c.volume_by.result) = fits_signed_from_abs w64 _ (omega (arith, size)) in
    let last = simp (to_z-of_z a, to_z-of_z w) at c.volume_by.ensures.value in
    let by = last ∙ (λ j. found n *ℤ c.requires.weight j) in
    λ areas same. simp (to_z-of_z v, to_z-of_z b, to_z-of_z s) ((λ j. c.requires.sums.are_volumes n (omega (arith, inside)) j +ℤ by j) ∙ volumes_are (at c.args._stations.now) found areas n same)

pub returns-clause-size : goal.returns-clause-size
returns-clause-size c =
    let inside = c.requires.inside in
    let v : FitsSigned w64 (slice_index_or c.args.walk.now.volumes c.args.n (pos 0)) = search rules in
    let b : FitsSigned w64 c.volume_by.result = search rules in
    let size = sum_within (at c.args.walk.now.volumes c.args.n) c.volume_by.result _ _ (c.requires.sums.volumes_within c.args.n (omega (arith, inside))) c.volume_by.ensures.size in
    let s : FitsSigned w64 (at c.args.walk.now.volumes c.args.n +ℤ c.volume_by.result) = fits_signed_from_abs w64 _ (omega (arith, size)) in
    simp (to_z-of_z v, to_z-of_z b, to_z-of_z s) (omega (arith, size))
