use Rattle.std.proofs.Common.{ℕ, FitsSigned, to_z-of_z, subst, sym, arith, Option, IsSomeAnd}
use Rattle.std.specs.Int.{w128}
use Rattle.units_core.proofs.Signed.{fits_within}
use Rattle.units_core.specs.Interpolation.{at}
use Rattle.units_core.specs.Ratio.{Ratio, Is}
use Rattle.righting.specs.Levers.{AreOrdinates, IsGreatest, greatest_of}
use Rattle.righting.specs.declared.ordinates.Levers.{Levers}
use Rattle.righting.proofs.Tops.{greatest_is}
use Rattle.righting.proofs.curves.greatest_levers.Goals as goal

best_is : (l : Levers) (y : ℕ → Ratio) (late : ℕ) → IsGreatest l.num 6 13 late → AreOrdinates l.num l.den y → IsSomeAnd (greatest_of y 6 7) (λ k. Is (at l.num late) l.den (y k))
best_is l y late g are = subst (λ (o : Option ℕ). IsSomeAnd o (λ k. Is (at l.num late) l.den (y k))) (sym (greatest_is l.num l.den y 6 7 late are (omega arith) g)) (are late g.there)

pub returns-clause-best : goal.returns-clause-best
returns-clause-best c =
    λ y are.
    let l = c.args.levers.now in
    let late = c.greatest_in-late.result in
    let d : FitsSigned w128 c.args.levers.now.den = fits_within _ _ l.den_within (omega arith) in
    let n : FitsSigned w128 (at c.args.levers.now.num c.greatest_in-late.result) = fits_within _ _ (l.num_within late) (omega arith) in
    simp (to_z-of_z d, to_z-of_z n) (best_is l y late c.greatest_in-late.ensures are)

pub returns-clause-greatest : goal.returns-clause-greatest
returns-clause-greatest c =
    λ y are.
    let l = c.args.levers.now in
    greatest_is l.num l.den y 0 13 c.greater.result are (omega arith) c.greater.ensures
