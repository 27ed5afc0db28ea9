-- The sizes of a body's shares.
use Rattle.std.proofs.Common.{◌≡◌, ◌+◌, ◌*◌, ◌^◌, ◌≤◌, ℕ, ℤ, pos, negsuc, ◌+ℤ◌, ◌-ℤ◌, ◌*ℤ◌, ◌≤ℤ◌, ◌<ℤ◌, unsigned_abs, FitsSigned, arith, refl}
use Rattle.std.specs.Int.{w64}
use Rattle.std.proofs.lemmas.Int.{fits_signed_from_abs}
use Rattle.units_core.specs.Ratio.{◌over◌, floor_of}
use Rattle.units_core.proofs.Decisions.{floor_is}
use Rattle.units_core.proofs.Signed.{signed_arith, one_part, product_within, difference_within, commutes}
use Rattle.units_core.proofs.Order.{cancel_order, times_order}
use Rattle.units_core.proofs.Ring.{diff_of, diff_same, differences}

not_negative : (a b : ℤ) → pos 0 ≤ℤ a → pos 0 ≤ℤ b → pos 0 ≤ℤ (a *ℤ b)
not_negative a b h k = let p = times_order (pos 0) a b k h in omega (arith, signed_arith, p)

-- a quotient that rounds down, between 0 and m where the number is
pub between : (n d m : ℤ) (q : ℤ) → pos 1 ≤ℤ d → pos 0 ≤ℤ n → n ≤ℤ (m *ℤ d) → (q *ℤ d) ≤ℤ n → n <ℤ ((q +ℤ pos 1) *ℤ d) → (pos 0 ≤ℤ q) × (q ≤ℤ m)
between n d m q h low high a b =
    let top : q ≤ℤ m = cancel_order q m d h (omega (arith, signed_arith, a, high)) in
    (least q b, top) where
      least : (q : ℤ) → n <ℤ ((q +ℤ pos 1) *ℤ d) → pos 0 ≤ℤ q
      least (pos k) b = omega (arith, signed_arith)
      least (negsuc k) b =
          let small : (negsuc k +ℤ pos 1) ≤ℤ pos 0 = omega (arith, signed_arith) in
          let down = times_order (negsuc k +ℤ pos 1) (pos 0) d (omega (arith, signed_arith, h)) small in
          absurd (omega (arith, signed_arith, down, b, low))

pub size_within : (q m : ℤ) (n : ℕ) → pos 0 ≤ℤ q → q ≤ℤ m → unsigned_abs m ≤ n → unsigned_abs q ≤ n
size_within q m n low high size = omega (arith, signed_arith, one_part q, one_part m)

pub record Part (kg reach half : ℤ) : Type 0 where
  pub mass : FitsSigned w64 kg
  pub far : FitsSigned w64 reach
  pub near : FitsSigned w64 half
  pub num : FitsSigned w64 (kg *ℤ reach)
  pub num_size : unsigned_abs (kg *ℤ reach) ≤ 2 * 10 ^ 15
  pub far_size : unsigned_abs reach ≤ 2 * 10 ^ 6
  pub den : FitsSigned w64 (pos 2 *ℤ half)
  pub positive : pos 1 ≤ℤ (pos 2 *ℤ half)
  pub four : FitsSigned w64 (pos 4 *ℤ half)
  pub four_positive : pos 1 ≤ℤ (pos 4 *ℤ half)
  pub low : pos 0 ≤ℤ (kg *ℤ reach)
  pub high : (kg *ℤ reach) ≤ℤ (kg *ℤ (pos 2 *ℤ half))
  pub squared_low : pos 0 ≤ℤ ((kg *ℤ reach) *ℤ reach)
  pub squared_high : ((kg *ℤ reach) *ℤ reach) ≤ℤ ((kg *ℤ half) *ℤ (pos 4 *ℤ half))
  pub most : unsigned_abs (kg *ℤ half) ≤ 10 ^ 15
  pub weight_low : pos 0 ≤ℤ floor_of ((kg *ℤ reach) over (pos 2 *ℤ half))
  pub weight_high : floor_of ((kg *ℤ reach) over (pos 2 *ℤ half)) ≤ℤ kg
  pub moment_size : unsigned_abs (floor_of (((kg *ℤ reach) *ℤ reach) over (pos 4 *ℤ half))) ≤ 10 ^ 15

pub part : (kg reach half : ℤ) → pos 0 ≤ℤ kg → unsigned_abs kg ≤ 10 ^ 9 → pos 0 ≤ℤ reach → reach ≤ℤ (pos 2 *ℤ half) → pos 1 ≤ℤ half → unsigned_abs half ≤ 10 ^ 6 → Part kg reach half
part kg reach half kg_low kg_high low high half_low half_high =
    let far : unsigned_abs reach ≤ 2 * 10 ^ 6 = omega (arith, signed_arith, one_part reach) in
    let num = product_within kg reach (10 ^ 9) (2 * 10 ^ 6) kg_high far in
    let den = product_within (pos 2) half 2 (10 ^ 6) (omega arith) half_high in
    let four = product_within (pos 4) half 4 (10 ^ 6) (omega arith) half_high in
    let positive = not_negative kg reach kg_low low in
    let once = times_order reach (pos 2 *ℤ half) kg kg_low high in
    let twice = times_order reach (pos 2 *ℤ half) (kg *ℤ reach) positive high in
    let again = times_order (reach *ℤ kg) ((pos 2 *ℤ half) *ℤ kg) (pos 2 *ℤ half) (omega (arith, signed_arith, half_low)) once in
    let two_positive : pos 1 ≤ℤ (pos 2 *ℤ half) = omega (arith, signed_arith, half_low) in
    let four_positive : pos 1 ≤ℤ (pos 4 *ℤ half) = omega (arith, signed_arith, half_low) in
    let squared_low = not_negative (kg *ℤ reach) reach positive low in
    let squared_high = joined kg reach half twice again in
    let most : unsigned_abs (kg *ℤ half) ≤ 10 ^ 15 = omega (arith, product_within kg half (10 ^ 9) (10 ^ 6) kg_high half_high) in
    let all : (kg *ℤ reach) ≤ℤ (kg *ℤ (pos 2 *ℤ half)) = rw (commutes kg reach, commutes kg (pos 2 *ℤ half)) once in
    let weight = floor_is ((kg *ℤ reach) over (pos 2 *ℤ half)) two_positive in
    let moment = floor_is (((kg *ℤ reach) *ℤ reach) over (pos 4 *ℤ half)) four_positive in
    let weights = between (kg *ℤ reach) (pos 2 *ℤ half) kg _ two_positive positive all weight.0 weight.1 in
    let moments = between ((kg *ℤ reach) *ℤ reach) (pos 4 *ℤ half) (kg *ℤ half) _ four_positive squared_low squared_high moment.0 moment.1 in
    record {
      mass = fits_signed_from_abs w64 _ (omega (arith, kg_high));
      far = fits_signed_from_abs w64 _ (omega (arith, far));
      near = fits_signed_from_abs w64 _ (omega (arith, half_high));
      num = fits_signed_from_abs w64 _ (omega (arith, num));
      num_size = omega (arith, num);
      far_size = far;
      den = fits_signed_from_abs w64 _ (omega (arith, den));
      positive = two_positive;
      four = fits_signed_from_abs w64 _ (omega (arith, four));
      weight_low = weights.0;
      weight_high = weights.1;
      moment_size = size_within _ (kg *ℤ half) (10 ^ 15) moments.0 moments.1 most;
      four_positive = four_positive;
      low = positive;
      high = all;
      squared_low = squared_low;
      squared_high = squared_high;
      most = most;
    } where
      law : (k r h : ℤ) → (pos 2 *ℤ h) *ℤ (k *ℤ r) ≡ (r *ℤ k) *ℤ (pos 2 *ℤ h)
      law k r h = rw (commutes (pos 2 *ℤ h) (k *ℤ r), commutes k r) refl

      joined : (k r h : ℤ) → (r *ℤ (k *ℤ r)) ≤ℤ ((pos 2 *ℤ h) *ℤ (k *ℤ r)) → ((r *ℤ k) *ℤ (pos 2 *ℤ h)) ≤ℤ (((pos 2 *ℤ h) *ℤ k) *ℤ (pos 2 *ℤ h)) → ((k *ℤ r) *ℤ r) ≤ℤ ((k *ℤ h) *ℤ (pos 4 *ℤ h))
      joined k r h a b = omega (arith, signed_arith, rw (commutes r (k *ℤ r), law k r h) at a, rw (square k h) at b)
        where
          square : (k h : ℤ) → ((pos 2 *ℤ h) *ℤ k) *ℤ (pos 2 *ℤ h) ≡ (k *ℤ h) *ℤ (pos 4 *ℤ h)
          square k h = rw (diff_of k, diff_of h, diff_of (pos 2), diff_of (pos 4)) (simp differences (diff_same _ _ _ _ (omega arith)))

pub record Moment (kg frame x : ℤ) : Type 0 where
  pub mass : FitsSigned w64 kg
  pub at : FitsSigned w64 frame
  pub centre : FitsSigned w64 x
  pub arm : FitsSigned w64 (frame -ℤ x)
  pub all : FitsSigned w64 (kg *ℤ (frame -ℤ x))
  pub size : unsigned_abs (kg *ℤ (frame -ℤ x)) ≤ 2 * 10 ^ 15

pub moment : (kg frame x : ℤ) → unsigned_abs kg ≤ 10 ^ 9 → unsigned_abs frame ≤ 10 ^ 6 → unsigned_abs x ≤ 10 ^ 6 → Moment kg frame x
moment kg frame x k f h =
    let arm = difference_within frame x (10 ^ 6) (10 ^ 6) f h in
    let all = product_within kg (frame -ℤ x) (10 ^ 9) (10 ^ 6 + 10 ^ 6) k arm in
    record {
      mass = fits_signed_from_abs w64 _ (omega (arith, k));
      at = fits_signed_from_abs w64 _ (omega (arith, f));
      centre = fits_signed_from_abs w64 _ (omega (arith, h));
      arm = fits_signed_from_abs w64 _ (omega (arith, arm));
      all = fits_signed_from_abs w64 _ (omega (arith, all));
      size = omega (arith, all);
    }
