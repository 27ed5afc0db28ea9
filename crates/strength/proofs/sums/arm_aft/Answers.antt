use Rattle.std.proofs.Common.{rules, arith, ◌∙◌, pos, ◌+ℤ◌, ◌*ℤ◌, FitsSigned, to_z-of_z}
use Rattle.std.specs.Prelude.{slice_index_or}
use Rattle.std.specs.Int.{w64, w128}
use Rattle.units_core.specs.Interpolation.{at}
use Rattle.units_core.proofs.Signed.{fits_within, sum_within}
use Rattle.strength.proofs.Weights.{moments_are}
use Rattle.strength.proofs.sums.arm_aft.Goals as goal

pub overflow_add-result : goal.overflow_add-result
overflow_add-result c =
    let inside = c.requires.inside in
    let v : FitsSigned w128 (slice_index_or c.args.walk.now.moments c.args.n (pos 0)) = search rules in
    let b : FitsSigned w128 c.moment_by.result = search rules in
    let size = sum_within (at c.args.walk.now.moments c.args.n) c.moment_by.result _ _ (c.requires.sums.moments_within c.args.n (omega (arith, inside))) c.moment_by.ensures.size in
    simp (to_z-of_z v, to_z-of_z b) (fits_within _ _ size (omega arith))

pub returns-clause-value : goal.returns-clause-value
returns-clause-value c =
    let n = c.args.n in
    let found = at c.args.walk.now.areas in
    let inside = c.requires.inside in
    let v : FitsSigned w128 (slice_index_or c.args.walk.now.moments n (pos 0)) = search rules in
    let a : FitsSigned w64 (slice_index_or c.args.walk.now.areas n (pos 0)) = search rules in
    let b : FitsSigned w128 c.moment_by.result = search rules in
    let w : FitsSigned w64 c.args.weight = search rules in
    let size = sum_within (at c.args.walk.now.moments n) c.moment_by.result _ _ (c.requires.sums.moments_within n (omega (arith, inside))) c.moment_by.ensures.size in
    let s : FitsSigned w128 (at c.args.walk.now.moments n +ℤ c.moment_by.result) = fits_within _ _ size (omega arith) in
    let last = simp (to_z-of_z a, to_z-of_z w) at c.moment_by.ensures.value in
    let by = last ∙ (λ j. found n *ℤ c.requires.weight j) in
    λ areas same. simp (to_z-of_z v, to_z-of_z b, to_z-of_z s) ((λ j. c.requires.sums.are_moments n (omega (arith, inside)) j +ℤ by j) ∙ moments_are (at c.args._stations.now) found areas n same)

pub returns-clause-size : goal.returns-clause-size
returns-clause-size c =
    let inside = c.requires.inside in
    let v : FitsSigned w128 (slice_index_or c.args.walk.now.moments c.args.n (pos 0)) = search rules in
    let b : FitsSigned w128 c.moment_by.result = search rules in
    let size = sum_within (at c.args.walk.now.moments c.args.n) c.moment_by.result _ _ (c.requires.sums.moments_within c.args.n (omega (arith, inside))) c.moment_by.ensures.size in
    let s : FitsSigned w128 (at c.args.walk.now.moments c.args.n +ℤ c.moment_by.result) = fits_within _ _ size (omega arith) in
    simp (to_z-of_z v, to_z-of_z b, to_z-of_z s) (omega (arith, size))
