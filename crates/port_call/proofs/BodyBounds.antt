-- The sums over bodies that stand within a ship, bounded body by body.
use Rattle.std.proofs.Common.{◌≡◌, ℕ, ◌*◌, ◌^◌, ◌≤◌, ℤ, pos, ◌+ℤ◌, ◌-ℤ◌, ◌*ℤ◌, ◌≤ℤ◌, Bool, true, false, List, [], ◌∷◌, Option, None, Some, unsigned_abs, refl, arith, slice_get}
use Rattle.std.specs.Prelude.{if◌then◌else◌, IfSome}
use Rattle.std.specs.List.{AllByRecursion}
use Rattle.units_core.proofs.Signed.{signed_arith, one_part, product_within, sum_within, difference_within}
use Rattle.units_core.proofs.Order.{times_order}
use Rattle.units_core.specs.Bodies.{Mass}
use Rattle.units_core.specs.Ratio.{◌over◌, floor_of}
use Rattle.units_core.specs.declared.frames.Frame.{Frame}
use Rattle.units_core.specs.Totals.{total}
use Rattle.moment_sums.proofs.Sizes.{between, part}
use Rattle.moment_sums.specs.Shares.{is_aft, is_past, moment_aft, reach, weight_aft}
use Rattle.moment_sums.specs.Sum.{Weight, MomentX, MomentY, MomentZ, Surface, WeightAft, MomentAft, Sum, at_frame, value}
use Rattle.units_core.proofs.Decisions.{floor_is}

-- a body at a place within 10^6 mm, its half no less than 0
pub record Stands (b : Mass) : Type 0 where
  pub kg : b.kg ≤ 10 ^ 9
  pub x : unsigned_abs b.place.x ≤ 10 ^ 6
  pub y : unsigned_abs b.place.y ≤ 10 ^ 6
  pub z : unsigned_abs b.place.z ≤ 10 ^ 6
  pub half_least : pos 0 ≤ℤ b.place.half
  pub half : unsigned_abs b.place.half ≤ 10 ^ 6
  pub fsm : pos 0 ≤ℤ b.fsm

-- a frame within 10^6 mm
abbrev pub IsNear : Frame → Type 0
IsNear f = unsigned_abs f.x ≤ 10 ^ 6

-- what each value of a sum keeps, but for the upper bound of the free surfaces, which is that of the tanks
pub record AreBounds (s : Sum) : Type 0 where
  pub kg : pos 0 ≤ℤ s Weight
  pub x : unsigned_abs (s MomentX) ≤ 10 ^ 6 * unsigned_abs (s Weight)
  pub y : unsigned_abs (s MomentY) ≤ 10 ^ 6 * unsigned_abs (s Weight)
  pub z : unsigned_abs (s MomentZ) ≤ 10 ^ 6 * unsigned_abs (s Weight)
  pub fsm_low : pos 0 ≤ℤ s Surface
  pub weights_low : (i : ℕ) → pos 0 ≤ℤ s (WeightAft i)
  pub weights_high : (i : ℕ) → s (WeightAft i) ≤ℤ s Weight
  pub moments_low : (i : ℕ) → pos 0 ≤ℤ s (MomentAft i)
  pub moments_high : (i : ℕ) → unsigned_abs (s (MomentAft i)) ≤ 2 * 10 ^ 6 * unsigned_abs (s Weight)

abbrev pub SumsAreBounded : Type 0
SumsAreBounded = (frames : List Frame) (bodies : List Mass) → ((i : ℕ) → IfSome (slice_get frames i) IsNear) → AllByRecursion Stands bodies → AreBounds (λ c. total (value frames c) bodies)

module _ (P : Mass → Type 0) where
  not_below : (g : Mass → ℤ) → ((b : Mass) → P b → pos 0 ≤ℤ g b) → (bs : List Mass) → AllByRecursion P bs → pos 0 ≤ℤ total g bs
  not_below g h [] all = omega (arith, signed_arith)
  not_below g h (b ∷ bs) all = omega (arith, signed_arith, h b all.0, not_below g h bs all.1)

  in_order : (g w : Mass → ℤ) → ((b : Mass) → P b → g b ≤ℤ w b) → (bs : List Mass) → AllByRecursion P bs → total g bs ≤ℤ total w bs
  in_order g w h [] all = omega (arith, signed_arith)
  in_order g w h (b ∷ bs) all = omega (arith, signed_arith, h b all.0, in_order g w h bs all.1)

  by_mass : (m : ℕ) → ((a t v u : ℤ) → pos 0 ≤ℤ v → pos 0 ≤ℤ u → unsigned_abs a ≤ m * unsigned_abs v → unsigned_abs t ≤ m * unsigned_abs u → unsigned_abs (a +ℤ t) ≤ m * unsigned_abs (v +ℤ u))
      → (g w : Mass → ℤ) → ((b : Mass) → P b → pos 0 ≤ℤ w b) → ((b : Mass) → P b → unsigned_abs (g b) ≤ m * unsigned_abs (w b)) → (bs : List Mass) → AllByRecursion P bs
      → unsigned_abs (total g bs) ≤ m * unsigned_abs (total w bs)
  by_mass m add g w n h [] all = omega (arith, signed_arith)
  by_mass m add g w n h (b ∷ bs) all = add (g b) (total g bs) (w b) (total w bs) (n b all.0) (not_below w n bs all.1) (h b all.0) (by_mass m add g w n h bs all.1)

added : (a t v u : ℤ) → pos 0 ≤ℤ v → pos 0 ≤ℤ u → unsigned_abs a ≤ 10 ^ 6 * unsigned_abs v → unsigned_abs t ≤ 10 ^ 6 * unsigned_abs u → unsigned_abs (a +ℤ t) ≤ 10 ^ 6 * unsigned_abs (v +ℤ u)
added a t v u hv hu p q = omega (arith, signed_arith, sum_within a t (10 ^ 6 * unsigned_abs v) (10 ^ 6 * unsigned_abs u) p q, one_part v, one_part u, one_part (v +ℤ u))

added_twice : (a t v u : ℤ) → pos 0 ≤ℤ v → pos 0 ≤ℤ u → unsigned_abs a ≤ 2 * 10 ^ 6 * unsigned_abs v → unsigned_abs t ≤ 2 * 10 ^ 6 * unsigned_abs u → unsigned_abs (a +ℤ t) ≤ 2 * 10 ^ 6 * unsigned_abs (v +ℤ u)
added_twice a t v u hv hu p q = omega (arith, signed_arith, sum_within a t (2 * 10 ^ 6 * unsigned_abs v) (2 * 10 ^ 6 * unsigned_abs u) p q, one_part v, one_part u, one_part (v +ℤ u))

moment : (k : ℕ) (x : ℤ) → unsigned_abs x ≤ 10 ^ 6 → unsigned_abs (pos k *ℤ x) ≤ 10 ^ 6 * unsigned_abs (pos k)
moment k x h = let p = product_within (pos k) x k (10 ^ 6) (omega arith) h in omega (arith, p)

share : (f : ℤ) (b : Mass) → Stands b → (pos 0 ≤ℤ weight_aft f b) × (weight_aft f b ≤ℤ pos b.kg)
share f b s = by_tests (is_aft f b) (is_past f b) refl refl where
  by_tests : (p q : Bool) → is_aft f b ≡ p → is_past f b ≡ q
      → (pos 0 ≤ℤ (if p then pos 0 else (if q then pos b.kg else floor_of ((pos b.kg *ℤ reach f b) over (pos 2 *ℤ b.place.half)))))
      × ((if p then pos 0 else (if q then pos b.kg else floor_of ((pos b.kg *ℤ reach f b) over (pos 2 *ℤ b.place.half)))) ≤ℤ pos b.kg)
  by_tests true q e d = (omega (arith, signed_arith), omega (arith, signed_arith))
  by_tests false true e d = (omega (arith, signed_arith), omega (arith, signed_arith))
  by_tests false false e d =
      let low : pos 0 ≤ℤ reach f b = omega (arith, signed_arith, e) in
      let high : reach f b ≤ℤ (pos 2 *ℤ b.place.half) = omega (arith, signed_arith, d) in
      let half : pos 1 ≤ℤ b.place.half = omega (arith, signed_arith, e, d) in
      let p = part (pos b.kg) (reach f b) b.place.half (omega (arith, signed_arith)) (omega (arith, s.kg)) low high half s.half in
      let g = floor_is ((pos b.kg *ℤ reach f b) over (pos 2 *ℤ b.place.half)) p.positive in
      between (pos b.kg *ℤ reach f b) (pos 2 *ℤ b.place.half) (pos b.kg) (floor_of ((pos b.kg *ℤ reach f b) over (pos 2 *ℤ b.place.half))) p.positive p.low p.high g.0 g.1

at_any : (o : Option Frame) (b : Mass) → Stands b → (pos 0 ≤ℤ at_frame weight_aft o b) × (at_frame weight_aft o b ≤ℤ pos b.kg)
at_any None b s = (omega (arith, signed_arith), omega (arith, signed_arith))
at_any (Some f) b s = share f.x b s

not_negative : (a b : ℤ) → pos 0 ≤ℤ a → pos 0 ≤ℤ b → pos 0 ≤ℤ (a *ℤ b)
not_negative a b h k = let p = times_order (pos 0) a b k h in omega (arith, signed_arith, p)

far : (k : ℕ) (x : ℤ) → unsigned_abs x ≤ 2 * 10 ^ 6 → unsigned_abs (pos k *ℤ x) ≤ 2 * 10 ^ 6 * unsigned_abs (pos k)
far k x h = let p = product_within (pos k) x k (2 * 10 ^ 6) (omega arith) h in omega (arith, p)

below_near : (k : ℕ) (h q : ℤ) → unsigned_abs h ≤ 10 ^ 6 → pos 0 ≤ℤ q → q ≤ℤ (pos k *ℤ h) → unsigned_abs q ≤ 2 * 10 ^ 6 * unsigned_abs (pos k)
below_near k h q near low high =
    let p = product_within (pos k) h k (10 ^ 6) (omega arith) near in
    omega (arith, signed_arith, p, one_part q, one_part (pos k *ℤ h))

lever : (f : ℤ) (b : Mass) → unsigned_abs f ≤ 10 ^ 6 → Stands b → (pos 0 ≤ℤ moment_aft f b) × (unsigned_abs (moment_aft f b) ≤ 2 * 10 ^ 6 * unsigned_abs (pos b.kg))
lever f b near s = by_tests (is_aft f b) (is_past f b) refl refl where
  by_tests : (p q : Bool) → is_aft f b ≡ p → is_past f b ≡ q
      → (pos 0 ≤ℤ (if p then pos 0 else (if q then pos b.kg *ℤ (f -ℤ b.place.x) else floor_of (((pos b.kg *ℤ reach f b) *ℤ reach f b) over (pos 4 *ℤ b.place.half)))))
      × (unsigned_abs (if p then pos 0 else (if q then pos b.kg *ℤ (f -ℤ b.place.x) else floor_of (((pos b.kg *ℤ reach f b) *ℤ reach f b) over (pos 4 *ℤ b.place.half)))) ≤ 2 * 10 ^ 6 * unsigned_abs (pos b.kg))
  by_tests true q e d = (omega (arith, signed_arith), omega (arith, signed_arith))
  by_tests false true e d =
      let arm : pos 0 ≤ℤ (f -ℤ b.place.x) = omega (arith, signed_arith, d, s.half_least) in
      let size : unsigned_abs (f -ℤ b.place.x) ≤ 2 * 10 ^ 6 = omega (arith, difference_within f b.place.x (10 ^ 6) (10 ^ 6) near s.x) in
      (not_negative (pos b.kg) (f -ℤ b.place.x) (omega (arith, signed_arith)) arm, far b.kg (f -ℤ b.place.x) size)
  by_tests false false e d =
      let low : pos 0 ≤ℤ reach f b = omega (arith, signed_arith, e) in
      let high : reach f b ≤ℤ (pos 2 *ℤ b.place.half) = omega (arith, signed_arith, d) in
      let half : pos 1 ≤ℤ b.place.half = omega (arith, signed_arith, e, d) in
      let p = part (pos b.kg) (reach f b) b.place.half (omega (arith, signed_arith)) (omega (arith, s.kg)) low high half s.half in
      let g = floor_is (((pos b.kg *ℤ reach f b) *ℤ reach f b) over (pos 4 *ℤ b.place.half)) p.four_positive in
      let q = between ((pos b.kg *ℤ reach f b) *ℤ reach f b) (pos 4 *ℤ b.place.half) (pos b.kg *ℤ b.place.half) (floor_of (((pos b.kg *ℤ reach f b) *ℤ reach f b) over (pos 4 *ℤ b.place.half))) p.four_positive p.squared_low p.squared_high g.0 g.1 in
      (q.0, below_near b.kg b.place.half (floor_of (((pos b.kg *ℤ reach f b) *ℤ reach f b) over (pos 4 *ℤ b.place.half))) s.half q.0 q.1)

lever_at : (o : Option Frame) (b : Mass) → IfSome o IsNear → Stands b → (pos 0 ≤ℤ at_frame moment_aft o b) × (unsigned_abs (at_frame moment_aft o b) ≤ 2 * 10 ^ 6 * unsigned_abs (pos b.kg))
lever_at None b near s = (omega (arith, signed_arith), omega (arith, signed_arith))
lever_at (Some f) b near s = lever f.x b near s

pub bounded : SumsAreBounded
bounded = λ frames bs near all.
    let mass : (b : Mass) → Stands b → pos 0 ≤ℤ value frames Weight b = λ b s. omega (arith, signed_arith) in
    record {
      kg = not_below Stands (value frames Weight) mass bs all;
      x = by_mass Stands (10 ^ 6) added (value frames MomentX) (value frames Weight) mass (λ b s. moment b.kg b.place.x s.x) bs all;
      y = by_mass Stands (10 ^ 6) added (value frames MomentY) (value frames Weight) mass (λ b s. moment b.kg b.place.y s.y) bs all;
      z = by_mass Stands (10 ^ 6) added (value frames MomentZ) (value frames Weight) mass (λ b s. moment b.kg b.place.z s.z) bs all;
      fsm_low = not_below Stands (value frames Surface) (λ b s. s.fsm) bs all;
      weights_low = λ i. not_below Stands (value frames (WeightAft i)) (λ b s. (at_any (slice_get frames i) b s).0) bs all;
      weights_high = λ i. in_order Stands (value frames (WeightAft i)) (value frames Weight) (λ b s. (at_any (slice_get frames i) b s).1) bs all;
      moments_low = λ i. not_below Stands (value frames (MomentAft i)) (λ b s. (lever_at (slice_get frames i) b (near i) s).0) bs all;
      moments_high = λ i. by_mass Stands (2 * 10 ^ 6) added_twice (value frames (MomentAft i)) (value frames Weight) mass (λ b s. (lever_at (slice_get frames i) b (near i) s).1) bs all;
    }
