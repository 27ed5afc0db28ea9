-- What the test of a sum's bounds says of its values.
use Rattle.std.proofs.Common.{◌≡◌, ℕ, zero, suc, ◌*◌, ◌^◌, ◌≤◌, ℤ, pos, ◌*ℤ◌, ◌≤ℤ◌, neg_ℤ, Bool, true, false, ◌&&◌, List, [], ◌∷◌, unsigned_abs, refl, arith}
use Rattle.std.specs.Prelude.{int_le}
use Rattle.std.specs.List.{list_all}
use Rattle.units_core.proofs.Signed.{signed_arith, one_part}
use Rattle.units_core.specs.Interpolation.{at}
use Rattle.moment_sums.specs.Bounded.{IsBounded}
use Rattle.moment_sums.specs.Kept.{Kept, are_centres, is_bounded, is_either_way, is_share, values}

split : (a b : Bool) → (a && b) ≡ true → (a ≡ true) × (b ≡ true)
split true b h = (refl, h)
split false b h = cc

-- each number of a list
each : (most : ℤ) (xs : List ℤ) → pos 0 ≤ℤ most → list_all (is_share most) xs ≡ true → (i : ℕ) → (pos 0 ≤ℤ at xs i) × (at xs i ≤ℤ most)
each most [] low h zero = (omega (arith, signed_arith), low)
each most [] low h (suc i) = (omega (arith, signed_arith), low)
each most (x ∷ xs) low h zero =
    let p = split (is_share most x) (list_all (is_share most) xs) h in
    let q = split (int_le (pos 0) x) (int_le x most) p.0 in
    (omega (arith, signed_arith, q.0), omega (arith, signed_arith, q.1))
each most (x ∷ xs) low h (suc i) = each most xs low (split (is_share most x) (list_all (is_share most) xs) h).1 i

centre : (n kg : ℤ) → pos 0 ≤ℤ kg → is_either_way (pos (10 ^ 6) *ℤ kg) n ≡ true → unsigned_abs n ≤ 10 ^ 6 * unsigned_abs kg
centre n kg low h =
    let p = split (int_le (neg_ℤ (pos (10 ^ 6) *ℤ kg)) n) (int_le n (pos (10 ^ 6) *ℤ kg)) h in
    omega (arith, signed_arith, p.0, p.1, one_part n, one_part kg)

moment : (n kg : ℤ) → pos 0 ≤ℤ kg → pos 0 ≤ℤ n → n ≤ℤ (pos (2 * 10 ^ 6) *ℤ kg) → unsigned_abs n ≤ 2 * 10 ^ 6 * unsigned_abs kg
moment n kg low least most = omega (arith, signed_arith, one_part n, one_part kg)

pub bounded_by_test : (t : Kept) → is_bounded t ≡ true → IsBounded (values t)
bounded_by_test t h =
    let all = split (int_le (pos 0) t.kg && (are_centres (pos (10 ^ 6) *ℤ t.kg) t.x t.y t.z && is_share (pos (2 * 10 ^ 14)) t.fsm))
    (list_all (is_share t.kg) t.weights_aft && list_all (is_share (pos (2 * 10 ^ 6) *ℤ t.kg)) t.moments_aft) h in
    let masses = split (int_le (pos 0) t.kg) (are_centres (pos (10 ^ 6) *ℤ t.kg) t.x t.y t.z && is_share (pos (2 * 10 ^ 14)) t.fsm) all.0 in
    let rest = split (are_centres (pos (10 ^ 6) *ℤ t.kg) t.x t.y t.z) (is_share (pos (2 * 10 ^ 14)) t.fsm) masses.1 in
    let first = split (is_either_way (pos (10 ^ 6) *ℤ t.kg) t.x) (is_either_way (pos (10 ^ 6) *ℤ t.kg) t.y && is_either_way (pos (10 ^ 6) *ℤ t.kg) t.z) rest.0 in
    let others = split (is_either_way (pos (10 ^ 6) *ℤ t.kg) t.y) (is_either_way (pos (10 ^ 6) *ℤ t.kg) t.z) first.1 in
    let surface = split (int_le (pos 0) t.fsm) (int_le t.fsm (pos (2 * 10 ^ 14))) rest.1 in
    let shares = split (list_all (is_share t.kg) t.weights_aft) (list_all (is_share (pos (2 * 10 ^ 6) *ℤ t.kg)) t.moments_aft) all.1 in
    let low : pos 0 ≤ℤ t.kg = omega (arith, signed_arith, masses.0) in
    let far : pos 0 ≤ℤ (pos (2 * 10 ^ 6) *ℤ t.kg) = omega (arith, signed_arith, low) in
    let weights = each t.kg t.weights_aft low shares.0 in
    let moments = each (pos (2 * 10 ^ 6) *ℤ t.kg) t.moments_aft far shares.1 in
    record {
      kg = low;
      x = centre t.x t.kg low first.0;
      y = centre t.y t.kg low others.0;
      z = centre t.z t.kg low others.1;
      fsm_low = omega (arith, signed_arith, surface.0);
      fsm_high = omega (arith, signed_arith, surface.1);
      weights_low = λ i. (weights i).0;
      weights_high = λ i. (weights i).1;
      moments_low = λ i. (moments i).0;
      moments_high = λ i. moment (at t.moments_aft i) t.kg low (moments i).0 (moments i).1;
    }
