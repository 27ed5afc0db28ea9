use Rattle.std.proofs.Common.{ℤ, pos, ◌*◌, ◌^◌, ◌≤◌, ◌+ℤ◌, ◌*ℤ◌, unsigned_abs, FitsSigned, to_z-of_z, arith}
use Rattle.std.specs.Int.{w64}
use Rattle.std.proofs.lemmas.Int.{fits_signed_from_abs}
use Rattle.units_core.proofs.Signed.{product_within, sum_within}
use Rattle.ship_profile.proofs.sections.moment_weight.Goals as goal

record Sizes (x z s : ℤ) : Type 0 where
  pub twice : FitsSigned w64 (pos 2 *ℤ x)
  pub sum : FitsSigned w64 ((pos 2 *ℤ x) +ℤ z)
  pub all : FitsSigned w64 (s *ℤ ((pos 2 *ℤ x) +ℤ z))
  pub size : unsigned_abs (s *ℤ ((pos 2 *ℤ x) +ℤ z)) ≤ 6 * 10 ^ 12

sizes : (x z s : ℤ) → unsigned_abs x ≤ 10 ^ 6 → unsigned_abs z ≤ 10 ^ 6 → unsigned_abs s ≤ 2 * 10 ^ 6 → Sizes x z s
sizes x z s hx hz hs =
    let twice = product_within (pos 2) x 2 _ (omega arith) hx in
    let sum = sum_within (pos 2 *ℤ x) z _ _ twice hz in
    let all = product_within s ((pos 2 *ℤ x) +ℤ z) _ _ hs sum in
    record {
      twice = fits_signed_from_abs w64 _ (omega (arith, twice));
      sum = fits_signed_from_abs w64 _ (omega (arith, sum));
      all = fits_signed_from_abs w64 _ (omega (arith, all));
      size = omega (arith, all);
    }

pub overflow_mul-result-2 : goal.overflow_mul-result-2
overflow_mul-result-2 c =
    let s = sizes c.args.x c.args.other c.args.by c.requires.x c.requires.other c.requires.by in
    simp (to_z-of_z c.ranges.x, to_z-of_z c.ranges.other, to_z-of_z c.ranges.by, to_z-of_z s.twice, to_z-of_z s.sum) s.all

pub returns-clause-value : goal.returns-clause-value
returns-clause-value c =
    let s = sizes c.args.x c.args.other c.args.by c.requires.x c.requires.other c.requires.by in
    simp (to_z-of_z c.ranges.x, to_z-of_z c.ranges.other, to_z-of_z c.ranges.by, to_z-of_z s.twice, to_z-of_z s.sum, to_z-of_z s.all)

pub returns-clause-within : goal.returns-clause-within
returns-clause-within c =
    let s = sizes c.args.x c.args.other c.args.by c.requires.x c.requires.other c.requires.by in
    simp (to_z-of_z c.ranges.x, to_z-of_z c.ranges.other, to_z-of_z c.ranges.by, to_z-of_z s.twice, to_z-of_z s.sum, to_z-of_z s.all) s.size
