use Rattle.std.proofs.Common.{rules, ◌≡◌, ◌∙◌, ℕ, ℤ, ◌+◌, ◌*◌, ◌≤◌, ◌+ℤ◌, FitsSigned, to_z-of_z, sym, arith}
use Rattle.std.specs.Int.{w128}
use Rattle.units_core.proofs.Signed.{fits_within}
use Rattle.units_core.specs.Ratio.{Ratio, Is}
use Rattle.righting.specs.Levers.{AreOrdinates, simpson}
use Rattle.righting.specs.Sums.{simpson_top}
use Rattle.righting.specs.declared.ordinates.Levers.{Levers}
use Rattle.righting.proofs.Simpson.{simpson_is, one_pair}
use Rattle.righting.proofs.curves.area_sums.Goals as goal

sum_is : (l : Levers) (y : ℕ → Ratio) (k m : ℕ) (n : ℤ) → n ≡ simpson_top l.num k m → k + 2 * m ≤ 12 → AreOrdinates l.num l.den y → Is n l.den (simpson y k m)
sum_is l y k m n e few are = rw e (simpson_is l.num l.den y k m l.positive are few)

pub returns-clause-to_30 : goal.returns-clause-to_30
returns-clause-to_30 c =
    λ y are.
    let l = c.args.levers.now in
    let d : FitsSigned w128 c.args.levers.now.den = fits_within _ _ l.den_within (omega arith) in
    let n : FitsSigned w128 c.sum_over_pairs-three.result = search rules in
    simp (to_z-of_z d, to_z-of_z n) (sum_is l y 0 3 c.sum_over_pairs-three.result c.sum_over_pairs-three.ensures.value (omega arith) are)

pub returns-clause-to_40 : goal.returns-clause-to_40
returns-clause-to_40 c =
    λ y are.
    let l = c.args.levers.now in
    let d : FitsSigned w128 c.args.levers.now.den = fits_within _ _ l.den_within (omega arith) in
    let a : FitsSigned w128 c.sum_over_pairs-three.result = search rules in
    let b : FitsSigned w128 c.pair_sum-next.result = search rules in
    let n : FitsSigned w128 c.with_next.result = search rules in
    let sum = simp (to_z-of_z a, to_z-of_z b) at c.with_next.ensures.value in
    let all = sum ∙ (λ i. c.sum_over_pairs-three.ensures.value i +ℤ c.pair_sum-next.ensures.value i) in
    simp (to_z-of_z d, to_z-of_z n) (sum_is l y 0 4 c.with_next.result all (omega arith) are)

pub returns-clause-from_30 : goal.returns-clause-from_30
returns-clause-from_30 c =
    λ y are.
    let l = c.args.levers.now in
    let d : FitsSigned w128 c.args.levers.now.den = fits_within _ _ l.den_within (omega arith) in
    let n : FitsSigned w128 c.pair_sum-next.result = search rules in
    simp (to_z-of_z d, to_z-of_z n) (sum_is l y 6 1 c.pair_sum-next.result (c.pair_sum-next.ensures.value ∙ sym (one_pair l.num 6)) (omega arith) are)
