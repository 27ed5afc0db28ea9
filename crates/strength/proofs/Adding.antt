-- Adding up thirds, sixths and halves, and one rounding.
use Rattle.std.proofs.Common.{◌≡◌, ◌∙◌, ℕ, zero, suc, ◌+◌, ℤ, pos, negsuc, neg_ℤ, ◌<ℤ◌, ◌≤◌, unsigned_abs, ◌+ℤ◌, ◌-ℤ◌, ◌*ℤ◌, ◌≤ℤ◌, FitsSigned, to_z, of_z, to_z-of_z, refl, arith, add-one}
use Rattle.std.specs.Int.{w64}
use Rattle.units_core.proofs.Signed.{signed_arith, one_part, commutes, distributes}
use borrow.Author.Differences.{same_in}
use Rattle.units_core.proofs.Order.{times_order}
use Rattle.units_core.proofs.Ring.{diff_of, diff_same, differences, one_times, times_one}
use Rattle.units_core.specs.Ratio.{whole, ◌over◌, ◌⊗◌, ◌⊘◌, Is, floor_of}
use Rattle.units_core.proofs.Ratios.{is_sum_over, is_zero, is_over, is_whole, is_quotient, is_product, is_reduced, one_positive}
use Rattle.units_core.proofs.Decisions.{floor_same}
use Rattle.strength.specs.Buoyancy.{arm_top, force_top, moment_top, sum_of, tops}

pub more : (g : ℕ → ℤ) (k : ℕ) → tops g k +ℤ g k ≡ tops g (k + 1)
more g k = simp add-one

term_is : (t d : ℤ) → pos 1 ≤ℤ d → Is t d (whole t ⊘ whole d)
term_is t d h = is_reduced t d (pos 1) (t *ℤ pos 1) (pos 1 *ℤ d) (whole t ⊘ whole d) (is_quotient t (pos 1) d (pos 1) (whole t) (whole d) (is_whole t) (is_whole d) h) one_positive refl (one d) where
  one : (d : ℤ) → pos 1 *ℤ d ≡ d *ℤ pos 1
  one d = omega (arith, signed_arith)

sum_is : (g : ℕ → ℤ) (d : ℤ) → pos 1 ≤ℤ d → (n : ℕ) → Is (tops g n) d (sum_of (λ k. whole (g k) ⊘ whole d) n)
sum_is g d h zero = is_zero d h
sum_is g d h (suc n) = is_sum_over (tops g n) (g n) d (sum_of (λ k. whole (g k) ⊘ whole d) n) (whole (g n) ⊘ whole d) (sum_is g d h n) (term_is (g n) d h)

flip : (z w d : ℤ) → z +ℤ w ≡ pos 0 → (z *ℤ d) +ℤ (d *ℤ w) ≡ pos 0
flip z w d e = rw (commutes d w, ← distributes z w d, e) (nought d) where
  nought : (d : ℤ) → pos 0 *ℤ d ≡ pos 0
  nought d = same_in _ _ (omega (arith, signed_arith))

-- a number rounded down lies near it
pub floor_near : (q n d : ℤ) (m : ℕ) → pos 1 ≤ℤ d → {k : ℕ} → unsigned_abs n ≤ k → k + 1 ≤ m → (q *ℤ d) ≤ℤ n → n <ℤ ((q +ℤ pos 1) *ℤ d) → unsigned_abs q ≤ m
floor_near q n d m h {k} size less a b = by q a b where
  by : (q : ℤ) → (q *ℤ d) ≤ℤ n → n <ℤ ((q +ℤ pos 1) *ℤ d) → unsigned_abs q ≤ m
  by (pos j) a b =
      let up = times_order (pos 1) d (pos j) (omega (arith, signed_arith)) h in
      omega (arith, signed_arith, one_part n, size, less, up, a, commutes (pos j) d, times_one (pos j), one_times (pos j))
  by (negsuc j) a b = below (negsuc j +ℤ pos 1) (neg_ℤ (negsuc j +ℤ pos 1)) (omega (arith, signed_arith)) (same_in _ _ (omega (arith, signed_arith))) (omega (arith, signed_arith)) b where
    below : (z w : ℤ) → pos 0 ≤ℤ w → z +ℤ w ≡ pos 0 → unsigned_abs (negsuc j) ≤ unsigned_abs w + 1 → n <ℤ (z *ℤ d) → unsigned_abs (negsuc j) ≤ m
    below z w low e near b =
        let up = times_order (pos 1) d w low h in
        omega (arith, signed_arith, one_part n, one_part w, size, less, up, flip z w d e, b, near, one_times w)

-- the one rounding
pub rounded : (g : ℕ → ℤ) (d e : ℤ) → pos 1 ≤ℤ d → (n : ℕ) → d *ℤ pos 10000000 ≡ e → floor_of ((tops g n *ℤ pos 1025) over e) ≡ floor_of (sum_of (λ k. whole (g k) ⊘ whole d) n ⊗ (pos 1025 over pos 10000000))
rounded g d e h n q =
    rw (← q) (floor_same (tops g n *ℤ pos 1025) (d *ℤ pos 10000000) (sum_of (λ k. whole (g k) ⊘ whole d) n ⊗ (pos 1025 over pos 10000000))
    (is_product (tops g n) d (pos 1025) (pos 10000000) (sum_of (λ k. whole (g k) ⊘ whole d) n) (pos 1025 over pos 10000000) (sum_is g d h n) (is_over (pos 1025) (pos 10000000) (omega (arith, signed_arith)))))

-- six times the moment about f, by three times f of twice the volume and the arms: of one interval, and of the first n
turned : (s x z a b f : ℤ) → s *ℤ ((a *ℤ ((pos 2 *ℤ (f -ℤ x)) +ℤ (f -ℤ z))) +ℤ (b *ℤ ((f -ℤ x) +ℤ (pos 2 *ℤ (f -ℤ z)))))
    ≡ ((pos 3 *ℤ f) *ℤ (s *ℤ (a +ℤ b))) -ℤ (s *ℤ ((a *ℤ ((pos 2 *ℤ x) +ℤ z)) +ℤ (b *ℤ ((pos 2 *ℤ z) +ℤ x))))
turned s x z a b f = rw (diff_of s, diff_of x, diff_of z, diff_of a, diff_of b, diff_of f, diff_of (pos 2), diff_of (pos 3)) (simp differences (diff_same _ _ _ _ (omega arith)))

both_turned : (t p q r s : ℤ) → ((t *ℤ p) -ℤ q) +ℤ ((t *ℤ r) -ℤ s) ≡ (t *ℤ (p +ℤ r)) -ℤ (q +ℤ s)
both_turned t p q r s = rw (diff_of t, diff_of p, diff_of q, diff_of r, diff_of s) (simp differences (diff_same _ _ _ _ (omega arith)))

none_turned : (t : ℤ) → pos 0 ≡ (t *ℤ pos 0) -ℤ pos 0
none_turned t = same_in _ _ (omega (arith, signed_arith))

pub all_turned : (xs ys : ℕ → ℤ) (f : ℤ) (n : ℕ) → tops (moment_top xs ys f) n ≡ ((pos 3 *ℤ f) *ℤ tops (force_top xs ys) n) -ℤ tops (arm_top xs ys) n
all_turned xs ys f zero = none_turned (pos 3 *ℤ f)
all_turned xs ys f (suc n) =
    let one = turned (xs (n + 1) -ℤ xs n) (xs n) (xs (n + 1)) (ys n) (ys (n + 1)) f in
    let before = all_turned xs ys f n in
    (λ i. before i +ℤ one i) ∙ both_turned (pos 3 *ℤ f) (tops (force_top xs ys) n) (tops (arm_top xs ys) n) (force_top xs ys n) (arm_top xs ys n)

-- sums of 64 bits
pub sum_fits : {a' b' : ℤ} (a b : ℤ) → a' ≡ a → b' ≡ b → FitsSigned w64 (a +ℤ b) → FitsSigned w64 (a' +ℤ b')
sum_fits a b e f h = rw (e, f) h

pub sum_back : {a' b' : ℤ} (a b : ℤ) → a' ≡ a → b' ≡ b → FitsSigned w64 (a +ℤ b) → to_z w64 (of_z w64 (a' +ℤ b')) ≡ a +ℤ b
sum_back a b e f h = rw (e, f) (to_z-of_z h)

-- 41 / 800,000 is 1025 / 20,000,000, and 41 / 2,400,000 is 1025 / 60,000,000
pub fewer : (v : ℤ) → floor_of ((v *ℤ pos 41) over pos 800000) ≡ floor_of ((v *ℤ pos 1025) over pos 20000000)
fewer v = floor_same (v *ℤ pos 41) (pos 800000) ((v *ℤ pos 1025) over pos 20000000) (omega (arith, signed_arith), omega (arith, signed_arith), same_in _ _ (omega (arith, signed_arith)))

pub fewer_moment : (v : ℤ) → floor_of ((v *ℤ pos 41) over pos 2400000) ≡ floor_of ((v *ℤ pos 1025) over pos 60000000)
fewer_moment v = floor_same (v *ℤ pos 41) (pos 2400000) ((v *ℤ pos 1025) over pos 60000000) (omega (arith, signed_arith), omega (arith, signed_arith), same_in _ _ (omega (arith, signed_arith)))
