use Rattle.std.proofs.Common.{rules, ◌≡◌, ◌∙◌, to_z, of_z, ℤ, pos, ◌*◌, ◌^◌, ◌≤◌, ◌≤ℤ◌, ◌+ℤ◌, ◌-ℤ◌, ◌*ℤ◌, unsigned_abs, FitsSigned, to_z-of_z, arith}
use Rattle.std.specs.Int.{w64}
use Rattle.std.proofs.lemmas.Int.{fits_signed_from_abs}
use Rattle.units_core.proofs.Signed.{signed_arith, one_part, product_within, sum_within}
use Rattle.ship_profile.proofs.sections.line_through.Goals as goal

record Sizes (lower upper by : ℤ) : Type 0 where
  pub start : FitsSigned w64 (lower *ℤ pos (2 ^ 36))
  pub rise : FitsSigned w64 (upper -ℤ lower)
  pub parts : FitsSigned w64 ((upper -ℤ lower) *ℤ pos (2 ^ 36))
  pub less : FitsSigned w64 (by -ℤ pos 1)
  pub top : FitsSigned w64 (((upper -ℤ lower) *ℤ pos (2 ^ 36)) +ℤ (by -ℤ pos 1))

sizes : (lower upper by : ℤ) → pos 0 ≤ℤ lower → unsigned_abs lower ≤ 10 ^ 8 → pos 0 ≤ℤ upper → unsigned_abs upper ≤ 10 ^ 8 → pos 1 ≤ℤ by → unsigned_abs by ≤ 2 * 10 ^ 5 → Sizes lower upper by
sizes lower upper by l0 l u0 u b0 b =
    let start = product_within lower (pos (2 ^ 36)) _ (2 ^ 36) l (omega arith) in
    let rise : unsigned_abs (upper -ℤ lower) ≤ 10 ^ 8 = omega (arith, signed_arith, one_part lower, one_part upper, one_part (upper -ℤ lower), l0, l, u0, u) in
    let parts = product_within (upper -ℤ lower) (pos (2 ^ 36)) _ (2 ^ 36) rise (omega arith) in
    let less : unsigned_abs (by -ℤ pos 1) ≤ 2 * 10 ^ 5 = omega (arith, signed_arith, one_part by, one_part (by -ℤ pos 1), b0, b) in
    let top = sum_within ((upper -ℤ lower) *ℤ pos (2 ^ 36)) (by -ℤ pos 1) _ _ parts less in
    record {
      start = fits_signed_from_abs w64 _ (omega (arith, start));
      rise = fits_signed_from_abs w64 _ (omega (arith, rise));
      parts = fits_signed_from_abs w64 _ (omega (arith, parts));
      less = fits_signed_from_abs w64 _ (omega (arith, less));
      top = fits_signed_from_abs w64 _ (omega (arith, top));
    }

pub returns : goal.returns
returns c =
    let r = c.requires in
    let s = sizes c.args.lower c.args.upper c.args.by r.lower_low r.lower r.upper_low r.upper r.by_low r.by in
    let q : FitsSigned w64 c.div_euclid.result = search rules in
    let start : to_z w64 (of_z w64 (to_z w64 (of_z w64 c.args.lower) *ℤ pos (2 ^ 36))) ≡ c.args.lower *ℤ pos (2 ^ 36) = simp (to_z-of_z c.ranges.lower, to_z-of_z s.start) in
    let down = simp (to_z-of_z c.ranges.lower, to_z-of_z c.ranges.upper, to_z-of_z c.ranges.by, to_z-of_z s.rise, to_z-of_z s.parts, to_z-of_z s.less, to_z-of_z s.top) at c.div_euclid.ensures in
    let slope = to_z-of_z q ∙ down in
    λ j. record { start = start j; slope = slope j }
