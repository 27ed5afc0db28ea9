use Rattle.std.proofs.Common.{rules, ◌≡◌, ℕ, ℤ, ◌+◌, ◌*◌, ◌+ℤ◌, FitsSigned, to_z, to_z-of_z, arith, List, refl, ◌∙◌, add-one}
use Rattle.std.specs.Int.{w128}
use Rattle.units_core.proofs.Signed.{sum_within, fits_within, sum_fits, sum_back}
use Rattle.righting.specs.Sums.{pair_top, simpson_top}
use Rattle.righting.proofs.areas.sum_over_pairs.Goals as goal

more : (ns : List ℤ) (k p : ℕ) → simpson_top ns k p +ℤ pair_top ns (k + 2 * p) ≡ simpson_top ns k (p + 1)
more ns k p = simp add-one

pub overflow_add-num : goal.overflow_add-num
overflow_add-num c =
    let size = sum_within (to_z w128 c.loop-p.num-bits) c.pair_sum-num.result _ _ c.loop-p.invariant.1 c.pair_sum-num.ensures.size in
    let f : FitsSigned w128 c.pair_sum-num.result = search rules in
    sum_fits _ _ refl (to_z-of_z f) (fits_within _ _ size (omega arith))

pub loop-p-preserved : goal.loop-p-preserved
loop-p-preserved c =
    let size = sum_within (to_z w128 c.loop-p.num-bits) c.pair_sum-num.result _ _ c.loop-p.invariant.1 c.pair_sum-num.ensures.size in
    let f : FitsSigned w128 c.pair_sum-num.result = search rules in
    let sum = sum_back (to_z w128 c.loop-p.num-bits) c.pair_sum-num.result refl (to_z-of_z f) (fits_within _ _ size (omega arith)) in
    (sum ∙ rw (c.loop-p.invariant.0, c.pair_sum-num.ensures.value) (more c.args.levers.now.num c.args.from c.loop-p.p), rw sum (omega (arith, size)))
