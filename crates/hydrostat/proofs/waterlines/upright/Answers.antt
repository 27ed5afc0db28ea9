use Rattle.std.proofs.Common.{rules, ◌≡◌, ◌*◌, ◌^◌, ◌≤◌, ◌+ℤ◌, ℤ, unsigned_abs, FitsSigned, to_z-of_z, arith, refl}
use Rattle.std.specs.Int.{w128}
use Rattle.units_core.proofs.Signed.{signed_arith, one_part, sum_within, fits_within}
use Rattle.moment_sums.specs.Bounded.{IsBounded}
use Rattle.moment_sums.specs.Kept.{values}
use Rattle.moment_sums.specs.Sum.{Sum, Weight, MomentZ, Surface}
use Rattle.hydrostat.proofs.waterlines.upright.Goals as goal

size : (s : Sum) → IsBounded s → unsigned_abs (s Weight) ≤ 10 ^ 9 → unsigned_abs (s MomentZ +ℤ s Surface) ≤ 2 * 10 ^ 15
size s b h =
    let z = b.z in
    let low = b.fsm_low in
    let high = b.fsm_high in
    let m : unsigned_abs (s MomentZ) ≤ 10 ^ 15 = omega (arith, z, h) in
    let f : unsigned_abs (s Surface) ≤ 2 * 10 ^ 14 = omega (arith, signed_arith, one_part (s Surface), low, high) in
    omega (arith, sum_within (s MomentZ) (s Surface) (10 ^ 15) (2 * 10 ^ 14) m f)

-- the two numbers as they are read
fits : (m f : ℤ) (s : Sum) → m ≡ s MomentZ → f ≡ s Surface → unsigned_abs (s MomentZ +ℤ s Surface) ≤ 2 * 10 ^ 15 → FitsSigned w128 (m +ℤ f)
fits m f s e g h = rw (e, g) (fits_within _ _ h (omega arith))

pub overflow_add-result : goal.overflow_add-result
overflow_add-result c =
    let m : FitsSigned w128 c.z.result = search rules in
    let f : FitsSigned w128 c.fsm.result = search rules in
    let s = values c.args.totals.now in
    simp (to_z-of_z m, to_z-of_z f) (fits c.z.result c.fsm.result s c.z.ensures.value c.fsm.ensures.value (size s c.requires.bounded c.requires.kg))

pub returns-clause-value : goal.returns-clause-value
returns-clause-value c =
    let m : FitsSigned w128 c.z.result = search rules in
    let f : FitsSigned w128 c.fsm.result = search rules in
    let s = values c.args.totals.now in
    let all = fits c.z.result c.fsm.result s c.z.ensures.value c.fsm.ensures.value (size s c.requires.bounded c.requires.kg) in
    simp (to_z-of_z m, to_z-of_z f, to_z-of_z all) (rw (c.z.ensures.value, c.fsm.ensures.value) refl)

pub returns-clause-within : goal.returns-clause-within
returns-clause-within c =
    let m : FitsSigned w128 c.z.result = search rules in
    let f : FitsSigned w128 c.fsm.result = search rules in
    let s = values c.args.totals.now in
    let all = fits c.z.result c.fsm.result s c.z.ensures.value c.fsm.ensures.value (size s c.requires.bounded c.requires.kg) in
    simp (to_z-of_z m, to_z-of_z f, to_z-of_z all) (rw (c.z.ensures.value, c.fsm.ensures.value) (size s c.requires.bounded c.requires.kg))
