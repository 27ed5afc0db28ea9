-- Areas that are added up station by station, each times its weight, are those that are added up interval by interval.
use Rattle.std.proofs.Common.{arith, ◌≡◌, ◌∙◌, ℕ, zero, suc, ◌+◌, ◌-◌, ◌*◌, ◌^◌, ◌≤◌, ◌<◌, ℤ, pos, ◌+ℤ◌, ◌-ℤ◌, ◌*ℤ◌, unsigned_abs, add-one, below_more, List}
use Rattle.units_core.proofs.Ring.{diff_of, diff_same, differences}
use Rattle.units_core.proofs.Signed.{signed_arith, difference_within, product_within, sum_within}
use borrow.Author.Differences.{same_in}
use Rattle.units_core.specs.Interpolation.{at, IsWithin}
use Rattle.ship_profile.specs.Sections.{station_weight}
use Rattle.strength.specs.Buoyancy.{arm_top, force_top, tops}

-- w, x and z are the places of three stations, a and b the areas at the last two, t what was added up before
volume_step : (t a b w x z : ℤ) → (t +ℤ (a *ℤ (z -ℤ w))) +ℤ (b *ℤ (z -ℤ x)) ≡ (t +ℤ (a *ℤ (x -ℤ w))) +ℤ ((z -ℤ x) *ℤ (a +ℤ b))
volume_step t a b w x z = rw (diff_of t, diff_of a, diff_of b, diff_of w, diff_of x, diff_of z) (simp differences (diff_same _ _ _ _ (omega arith)))

-- u is what the area at x counts in the interval before it, and y its weight there
moment_step : (t a b u s p r : ℤ) → (t +ℤ (a *ℤ (u +ℤ (s *ℤ p)))) +ℤ (b *ℤ (s *ℤ r)) ≡ (t +ℤ (a *ℤ u)) +ℤ (s *ℤ ((a *ℤ p) +ℤ (b *ℤ r)))
moment_step t a b u s p r = rw (diff_of t, diff_of a, diff_of b, diff_of u, diff_of s, diff_of p, diff_of r) (simp differences (diff_same _ _ _ _ (omega arith)))

self_less : (x : ℤ) → x -ℤ x ≡ pos 0
self_less x = same_in _ _ (omega (arith, signed_arith))

nought_times : (y : ℤ) → pos 0 *ℤ y ≡ pos 0
nought_times y = same_in _ _ (omega (arith, signed_arith))

times_nought : (a : ℤ) → pos 0 +ℤ (a *ℤ pos 0) ≡ pos 0
times_nought a = same_in _ _ (omega (arith, signed_arith))

-- nothing lies before the first station
no_volume : (a x : ℤ) → pos 0 +ℤ (a *ℤ (x -ℤ x)) ≡ pos 0
no_volume a x = (λ i. pos 0 +ℤ (a *ℤ self_less x i)) ∙ times_nought a

no_moment : (a x y : ℤ) → pos 0 +ℤ (a *ℤ ((x -ℤ x) *ℤ y)) ≡ pos 0
no_moment a x y = (λ i. pos 0 +ℤ (a *ℤ (self_less x i *ℤ y))) ∙ ((λ i. pos 0 +ℤ (a *ℤ nought_times y i)) ∙ times_nought a)

pub volumes_are : (xs found ys : ℕ → ℤ) (n : ℕ) → ((k : ℕ) → k ≤ n → found k ≡ ys k)
    → tops (λ j. found j *ℤ (station_weight xs j).volume) n +ℤ (found n *ℤ (xs n -ℤ xs (n - 1))) ≡ tops (force_top xs ys) n
volumes_are xs found ys zero e = no_volume (found 0) (xs 0)
volumes_are xs found ys (suc n) e =
    let before = volumes_are xs found ys n (λ k low. e k (omega (arith, low))) in
    let one = e n (omega arith) in
    let next = e (suc n) (omega arith) in
    let back : suc n - 1 ≡ n = omega arith in
    simp (add-one, back) (volume_step (tops (λ j. found j *ℤ (station_weight xs j).volume) n) (found n) (found (suc n)) (xs (n - 1)) (xs n) (xs (suc n))
    ∙ (λ i. before i +ℤ ((xs (suc n) -ℤ xs n) *ℤ (one i +ℤ next i))))

pub moments_are : (xs found ys : ℕ → ℤ) (n : ℕ) → ((k : ℕ) → k ≤ n → found k ≡ ys k)
    → tops (λ j. found j *ℤ (station_weight xs j).moment) n +ℤ (found n *ℤ ((xs n -ℤ xs (n - 1)) *ℤ ((pos 2 *ℤ xs n) +ℤ xs (n - 1)))) ≡ tops (arm_top xs ys) n
moments_are xs found ys zero e = no_moment (found 0) (xs 0) ((pos 2 *ℤ xs 0) +ℤ xs 0)
moments_are xs found ys (suc n) e =
    let before = moments_are xs found ys n (λ k low. e k (omega (arith, low))) in
    let one = e n (omega arith) in
    let next = e (suc n) (omega arith) in
    let back : suc n - 1 ≡ n = omega arith in
    simp (add-one, back) (moment_step (tops (λ j. found j *ℤ (station_weight xs j).moment) n) (found n) (found (suc n)) ((xs n -ℤ xs (n - 1)) *ℤ ((pos 2 *ℤ xs n) +ℤ xs (n - 1))) (xs (suc n) -ℤ xs n) ((pos 2 *ℤ xs n) +ℤ xs (suc n)) ((pos 2 *ℤ xs (suc n)) +ℤ xs n)
    ∙ (λ i. before i +ℤ ((xs (suc n) -ℤ xs n) *ℤ ((one i *ℤ ((pos 2 *ℤ xs n) +ℤ xs (suc n))) +ℤ (next i *ℤ ((pos 2 *ℤ xs (suc n)) +ℤ xs n))))))

-- the sizes of weights
pub volume_within : (xs : List ℤ) (k : ℕ) → IsWithin (10 ^ 6) xs → unsigned_abs (station_weight (at xs) k).volume ≤ 2 * 10 ^ 6
volume_within xs k w = let size = difference_within (at xs (k + 1)) (at xs (k - 1)) _ _ (w (k + 1)) (w (k - 1)) in omega (arith, size)

turned_within : (x z : ℤ) → unsigned_abs x ≤ 10 ^ 6 → unsigned_abs z ≤ 10 ^ 6 → (s : ℤ) → unsigned_abs s ≤ 2 * 10 ^ 6 → unsigned_abs (s *ℤ ((pos 2 *ℤ x) +ℤ z)) ≤ 6 * 10 ^ 12
turned_within x z hx hz s hs =
    let twice = product_within (pos 2) x 2 _ (omega arith) hx in
    let sum = sum_within (pos 2 *ℤ x) z _ _ twice hz in
    let all = product_within s ((pos 2 *ℤ x) +ℤ z) _ _ hs sum in
    omega (arith, all)

pub moment_within : (xs : List ℤ) (k : ℕ) → IsWithin (10 ^ 6) xs → unsigned_abs (station_weight (at xs) k).moment ≤ 12 * 10 ^ 12
moment_within xs k w =
    let back = difference_within (at xs k) (at xs (k - 1)) _ _ (w k) (w (k - 1)) in
    let ahead = difference_within (at xs (k + 1)) (at xs k) _ _ (w (k + 1)) (w k) in
    let one = turned_within (at xs k) (at xs (k - 1)) (w k) (w (k - 1)) (at xs k -ℤ at xs (k - 1)) (omega (arith, back)) in
    let other = turned_within (at xs k) (at xs (k + 1)) (w k) (w (k + 1)) (at xs (k + 1) -ℤ at xs k) (omega (arith, ahead)) in
    let both = sum_within ((at xs k -ℤ at xs (k - 1)) *ℤ ((pos 2 *ℤ at xs k) +ℤ at xs (k - 1))) ((at xs (k + 1) -ℤ at xs k) *ℤ ((pos 2 *ℤ at xs k) +ℤ at xs (k + 1))) _ _ one other in
    omega (arith, both)

-- a bound of all sums below k, and of the k-th
pub within_below : (g : ℕ → ℤ) (k m : ℕ) → ((j : ℕ) → j < k → unsigned_abs (g j) ≤ m) → unsigned_abs (g k) ≤ m → (j : ℕ) → j < k + 1 → unsigned_abs (g j) ≤ m
within_below g k m done h = below_more _ _ done h
