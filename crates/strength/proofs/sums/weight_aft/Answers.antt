use Rattle.std.proofs.Common.{rules, arith, ◌≡◌, ◌∙◌, ℤ, pos, ◌*◌, ◌^◌, ◌-◌, ◌≤◌, ◌+ℤ◌, ◌-ℤ◌, ◌*ℤ◌, unsigned_abs, get_or, FitsSigned, to_z-of_z}
use Rattle.std.specs.Int.{w64}
use Rattle.std.proofs.lemmas.Int.{fits_signed_from_abs}
use Rattle.units_core.specs.Interpolation.{at}
use Rattle.units_core.proofs.Signed.{product_within, sum_within, difference_within}
use Rattle.strength.proofs.Placed.{inside_same}
use Rattle.strength.proofs.sums.weight_aft.Goals as goal

record Sizes (x p : ℤ) : Type 0 where
  pub back : FitsSigned w64 (x -ℤ p)
  pub twice : FitsSigned w64 (pos 2 *ℤ x)
  pub sum : FitsSigned w64 ((pos 2 *ℤ x) +ℤ p)
  pub all : FitsSigned w64 ((x -ℤ p) *ℤ ((pos 2 *ℤ x) +ℤ p))
  pub size : unsigned_abs ((x -ℤ p) *ℤ ((pos 2 *ℤ x) +ℤ p)) ≤ 12 * 10 ^ 12

sizes : (x p : ℤ) → unsigned_abs x ≤ 10 ^ 6 → unsigned_abs p ≤ 10 ^ 6 → Sizes x p
sizes x p hx hp =
    let back = difference_within x p _ _ hx hp in
    let twice = product_within (pos 2) x 2 _ (omega arith) hx in
    let sum = sum_within (pos 2 *ℤ x) p _ _ twice hp in
    let all = product_within (x -ℤ p) ((pos 2 *ℤ x) +ℤ p) _ _ back sum in
    record {
      back = fits_signed_from_abs w64 _ (omega (arith, back));
      twice = fits_signed_from_abs w64 _ (omega (arith, twice));
      sum = fits_signed_from_abs w64 _ (omega (arith, sum));
      all = fits_signed_from_abs w64 _ (omega (arith, all));
      size = omega (arith, all);
    }

pub overflow_mul-result-2 : goal.overflow_mul-result-2
overflow_mul-result-2 c =
    let x : FitsSigned w64 c.mm-x.result = search rules in
    let p : FitsSigned w64 c.mm-before.result = search rules in
    let s = sizes c.mm-x.result c.mm-before.result c.mm-x.ensures.within c.mm-before.ensures.within in
    simp (to_z-of_z x, to_z-of_z p, to_z-of_z s.back, to_z-of_z s.twice, to_z-of_z s.sum) s.all

pub returns-clause-value : goal.returns-clause-value
returns-clause-value c =
    let xs = c.args.stations.now in
    let n = c.args.n in
    let inside = c.requires in
    let x : FitsSigned w64 c.mm-x.result = search rules in
    let p : FitsSigned w64 c.mm-before.result = search rules in
    let s = sizes c.mm-x.result c.mm-before.result c.mm-x.ensures.within c.mm-before.ensures.within in
    let here : c.mm-x.result ≡ at xs n = c.mm-x.ensures.value ∙ (c.index-stations-n.is ∙ inside_same xs n _ (pos 0) inside) in
    let back : c.saturating_sub.result ≡ n - 1 = c.saturating_sub.ensures in
    let before : c.mm-before.result ≡ at xs (n - 1) = c.mm-before.ensures.value ∙ (c.index-stations-saturating_sub.is ∙ ((λ j. get_or xs (back j) c.index-stations-saturating_sub.result) ∙ inside_same xs (n - 1) _ (pos 0) (omega (arith, inside)))) in
    simp (to_z-of_z x, to_z-of_z p, to_z-of_z s.back, to_z-of_z s.twice, to_z-of_z s.sum, to_z-of_z s.all) (λ j. record { volume = here j -ℤ before j; moment = (here j -ℤ before j) *ℤ ((pos 2 *ℤ here j) +ℤ before j) })

pub returns-clause-moment_size : goal.returns-clause-moment_size
returns-clause-moment_size c =
    let x : FitsSigned w64 c.mm-x.result = search rules in
    let p : FitsSigned w64 c.mm-before.result = search rules in
    let s = sizes c.mm-x.result c.mm-before.result c.mm-x.ensures.within c.mm-before.ensures.within in
    simp (to_z-of_z x, to_z-of_z p, to_z-of_z s.back, to_z-of_z s.twice, to_z-of_z s.sum, to_z-of_z s.all) s.size
