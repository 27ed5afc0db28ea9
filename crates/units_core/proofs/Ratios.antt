-- Fractions over one denominator against the ratios of the textbook, operator by operator.
use Rattle.std.proofs.Common.{◌≡◌, ℤ, pos, ◌+ℤ◌, ◌-ℤ◌, ◌*ℤ◌, ◌≤ℤ◌, ◌<ℤ◌, arith, refl, sym, ◌∙◌}
use Rattle.std.proofs.lemmas.Int.{by_lt_z}
use Rattle.units_core.proofs.Signed.{signed_arith, product_positive}
use Rattle.units_core.proofs.Order.{cancel_order, times_order}
use Rattle.units_core.specs.Ratio.{Ratio, ◌over◌, whole, ◌⊕◌, ◌⊖◌, ◌⊗◌, ◌⊘◌, Is, IsAtLeast, IsFloor}
use Rattle.units_core.proofs.Ring.{diff_of, diff_same, differences, times_one, one_times}

pub interchange : (a b c d : ℤ) → (a *ℤ b) *ℤ (c *ℤ d) ≡ (a *ℤ c) *ℤ (b *ℤ d)
interchange a b c d = rw (diff_of a, diff_of b, diff_of c, diff_of d) (simp differences (diff_same _ _ _ _ (omega arith)))

pub one_positive : pos 1 ≤ℤ pos 1
one_positive = omega (arith, signed_arith)

-- a positive factor may be taken away
pub cancel : (x y k : ℤ) → pos 1 ≤ℤ k → x *ℤ k ≡ y *ℤ k → x ≡ y
cancel x y k h e =
    let p = cancel_order x y k h (omega (arith, signed_arith)) in
    let q = cancel_order y x k h (omega (arith, signed_arith)) in
    omega (arith, signed_arith)

-- and a factor of a positive product, where the other is positive, is positive
pub factor_positive : (x k : ℤ) → pos 1 ≤ℤ k → pos 1 ≤ℤ (x *ℤ k) → pos 1 ≤ℤ x
factor_positive x k h p =
    by_lt_z x (pos 1)
    (λ less. let low : x ≤ℤ pos 0 = omega (arith, signed_arith) in absurd (omega (arith, signed_arith, times_order x (pos 0) k (omega (arith, signed_arith)) low)))
    (λ le. le)

-- a fraction is the ratio of its own numbers
pub is_over : (n d : ℤ) → pos 1 ≤ℤ d → Is n d (n over d)
is_over n d h = (h, h, refl)

pub is_whole : (n : ℤ) → Is n (pos 1) (whole n)
is_whole n = is_over n (pos 1) one_positive

pub is_sum : (n d m e : ℤ) (a b : Ratio) → Is n d a → Is m e b → Is ((n *ℤ e) +ℤ (m *ℤ d)) (d *ℤ e) (a ⊕ b)
is_sum n d m e a b p q =
    (product_positive d e p.0 q.0, product_positive a.bottom b.bottom p.1 q.1, left n e m d a.bottom b.bottom ∙ (rw (p.2, q.2) (sym (right a.top b.bottom b.top a.bottom d e)))) where
      left : (n e m d x y : ℤ) → ((n *ℤ e) +ℤ (m *ℤ d)) *ℤ (x *ℤ y) ≡ ((n *ℤ x) *ℤ (e *ℤ y)) +ℤ ((m *ℤ y) *ℤ (d *ℤ x))
      left n e m d x y = rw (diff_of n, diff_of e, diff_of m, diff_of d, diff_of x, diff_of y) (simp differences (diff_same _ _ _ _ (omega arith)))

      right : (s y t x d e : ℤ) → ((s *ℤ y) +ℤ (t *ℤ x)) *ℤ (d *ℤ e) ≡ ((s *ℤ d) *ℤ (e *ℤ y)) +ℤ ((t *ℤ e) *ℤ (d *ℤ x))
      right s y t x d e = rw (diff_of s, diff_of y, diff_of t, diff_of x, diff_of d, diff_of e) (simp differences (diff_same _ _ _ _ (omega arith)))

pub is_difference : (n d m e : ℤ) (a b : Ratio) → Is n d a → Is m e b → Is ((n *ℤ e) -ℤ (m *ℤ d)) (d *ℤ e) (a ⊖ b)
is_difference n d m e a b p q =
    (product_positive d e p.0 q.0, product_positive a.bottom b.bottom p.1 q.1, left n e m d a.bottom b.bottom ∙ (rw (p.2, q.2) (sym (right a.top b.bottom b.top a.bottom d e)))) where
      left : (n e m d x y : ℤ) → ((n *ℤ e) -ℤ (m *ℤ d)) *ℤ (x *ℤ y) ≡ ((n *ℤ x) *ℤ (e *ℤ y)) -ℤ ((m *ℤ y) *ℤ (d *ℤ x))
      left n e m d x y = rw (diff_of n, diff_of e, diff_of m, diff_of d, diff_of x, diff_of y) (simp differences (diff_same _ _ _ _ (omega arith)))

      right : (s y t x d e : ℤ) → ((s *ℤ y) -ℤ (t *ℤ x)) *ℤ (d *ℤ e) ≡ ((s *ℤ d) *ℤ (e *ℤ y)) -ℤ ((t *ℤ e) *ℤ (d *ℤ x))
      right s y t x d e = rw (diff_of s, diff_of y, diff_of t, diff_of x, diff_of d, diff_of e) (simp differences (diff_same _ _ _ _ (omega arith)))

pub is_product : (n d m e : ℤ) (a b : Ratio) → Is n d a → Is m e b → Is (n *ℤ m) (d *ℤ e) (a ⊗ b)
is_product n d m e a b p q =
    (product_positive d e p.0 q.0, product_positive a.bottom b.bottom p.1 q.1, interchange n m a.bottom b.bottom ∙ (rw (p.2, q.2) (interchange a.top d b.top e)))

pub is_quotient : (n d m e : ℤ) (a b : Ratio) → Is n d a → Is m e b → pos 1 ≤ℤ m → Is (n *ℤ e) (d *ℤ m) (a ⊘ b)
is_quotient n d m e a b p q h =
    let top : pos 1 ≤ℤ b.top = factor_positive b.top e q.0 (rw (← q.2) (product_positive m b.bottom h q.1)) in
    (product_positive d m p.0 h, product_positive a.bottom b.top p.1 top, left n e a.bottom b.top ∙ (rw (p.2, ← q.2) (right a.top d m b.bottom))) where
      left : (n e x t : ℤ) → (n *ℤ e) *ℤ (x *ℤ t) ≡ (n *ℤ x) *ℤ (t *ℤ e)
      left n e x t = rw (diff_of n, diff_of e, diff_of x, diff_of t) (simp differences (diff_same _ _ _ _ (omega arith)))

      right : (s d m y : ℤ) → (s *ℤ d) *ℤ (m *ℤ y) ≡ (s *ℤ y) *ℤ (d *ℤ m)
      right s d m y = rw (diff_of s, diff_of d, diff_of m, diff_of y) (simp differences (diff_same _ _ _ _ (omega arith)))

-- a common factor is taken out
pub is_reduced : (n d k n' d' : ℤ) (r : Ratio) → Is n' d' r → pos 1 ≤ℤ k → n' ≡ n *ℤ k → d' ≡ d *ℤ k → Is n d r
is_reduced n d k n' d' r p h e f =
    (factor_positive d k h (rw (← f) p.0), p.1, cancel (n *ℤ r.bottom) (r.top *ℤ d) k h (moved n r.bottom k ∙ (rw (← e) (p.2 ∙ (rw f (sym (associated r.top d k))))))) where
      moved : (n x k : ℤ) → (n *ℤ x) *ℤ k ≡ (n *ℤ k) *ℤ x
      moved n x k = rw (diff_of n, diff_of x, diff_of k) (simp differences (diff_same _ _ _ _ (omega arith)))

      associated : (s d k : ℤ) → (s *ℤ d) *ℤ k ≡ s *ℤ (d *ℤ k)
      associated s d k = rw (diff_of s, diff_of d, diff_of k) (simp differences (diff_same _ _ _ _ (omega arith)))

-- over one denominator
pub is_sum_over : (n m d : ℤ) (a b : Ratio) → Is n d a → Is m d b → Is (n +ℤ m) d (a ⊕ b)
is_sum_over n m d a b p q = is_reduced (n +ℤ m) d d _ _ _ (is_sum n d m d a b p q) p.0 (law n m d) refl where
  law : (n m d : ℤ) → (n *ℤ d) +ℤ (m *ℤ d) ≡ (n +ℤ m) *ℤ d
  law n m d = rw (diff_of n, diff_of m, diff_of d) (simp differences (diff_same _ _ _ _ (omega arith)))

pub is_times : (k n d : ℤ) (a : Ratio) → Is n d a → Is (k *ℤ n) d (whole k ⊗ a)
is_times k n d a p = is_reduced (k *ℤ n) d (pos 1) _ _ _ (is_product k (pos 1) n d (whole k) a (is_whole k) p) one_positive (sym (times_one (k *ℤ n))) (one_times d ∙ sym (times_one d))

pub is_zero : (d : ℤ) → pos 1 ≤ℤ d → Is (pos 0) d (whole (pos 0))
is_zero d h = (h, one_positive, rw (zero_times d) refl) where
  zero_times : (d : ℤ) → pos 0 *ℤ d ≡ pos 0
  zero_times d = rw (diff_of d, diff_of (pos 0)) (simp differences (diff_same _ _ _ _ (omega arith)))

-- a limit holds of the fraction exactly where it holds of the ratio
pub at_least_in : (n d : ℤ) (r : Ratio) (k : ℤ) → Is n d r → (k *ℤ d) ≤ℤ n → IsAtLeast r k
at_least_in n d r k p h = cancel_order (k *ℤ r.bottom) r.top d p.0 (rw (← p.2) (rw (swap k r.bottom d) (times_order (k *ℤ d) n r.bottom (omega (arith, signed_arith, p.1)) h))) where
  swap : (k b d : ℤ) → (k *ℤ b) *ℤ d ≡ (k *ℤ d) *ℤ b
  swap k b d = rw (diff_of k, diff_of b, diff_of d) (simp differences (diff_same _ _ _ _ (omega arith)))

pub at_least_out : (n d : ℤ) (r : Ratio) (k : ℤ) → Is n d r → IsAtLeast r k → (k *ℤ d) ≤ℤ n
at_least_out n d r k p h = cancel_order (k *ℤ d) n r.bottom p.1 (rw p.2 (rw (swap k d r.bottom) (times_order (k *ℤ r.bottom) r.top d (omega (arith, signed_arith, p.0)) h))) where
  swap : (k d b : ℤ) → (k *ℤ d) *ℤ b ≡ (k *ℤ b) *ℤ d
  swap k d b = rw (diff_of k, diff_of d, diff_of b) (simp differences (diff_same _ _ _ _ (omega arith)))

-- the fraction rounded down is the ratio rounded down
pub floor_in : (q n d : ℤ) (r : Ratio) → Is n d r → (q *ℤ d) ≤ℤ n → n <ℤ ((q +ℤ pos 1) *ℤ d) → IsFloor q r
floor_in q n d r p low high = (
  at_least_in n d r q p low,
  by_lt_z r.top ((q +ℤ pos 1) *ℤ r.bottom) (λ less. less) (λ le. absurd (omega (arith, signed_arith, at_least_out n d r (q +ℤ pos 1) p le))),
)

-- over one denominator the order is that of the numbers
pub order_in : (n m d : ℤ) (a b : Ratio) → Is n d a → Is m d b → n ≤ℤ m → (a.top *ℤ b.bottom) ≤ℤ (b.top *ℤ a.bottom)
order_in n m d a b p q h =
    let long = times_order n m (a.bottom *ℤ b.bottom) (omega (arith, signed_arith, product_positive a.bottom b.bottom p.1 q.1)) h in
    let left : n *ℤ (a.bottom *ℤ b.bottom) ≡ (a.top *ℤ b.bottom) *ℤ d = outer n a.bottom b.bottom ∙ (rw p.2 (inner a.top d b.bottom)) in
    let right : m *ℤ (a.bottom *ℤ b.bottom) ≡ (b.top *ℤ a.bottom) *ℤ d = swapped m a.bottom b.bottom ∙ (rw q.2 (inner b.top d a.bottom)) in
    cancel_order (a.top *ℤ b.bottom) (b.top *ℤ a.bottom) d p.0 (rw (left, right) at long) where
      outer : (n x y : ℤ) → n *ℤ (x *ℤ y) ≡ (n *ℤ x) *ℤ y
      outer n x y = rw (diff_of n, diff_of x, diff_of y) (simp differences (diff_same _ _ _ _ (omega arith)))

      swapped : (n x y : ℤ) → n *ℤ (x *ℤ y) ≡ (n *ℤ y) *ℤ x
      swapped n x y = rw (diff_of n, diff_of x, diff_of y) (simp differences (diff_same _ _ _ _ (omega arith)))

      inner : (t d y : ℤ) → (t *ℤ d) *ℤ y ≡ (t *ℤ y) *ℤ d
      inner t d y = rw (diff_of t, diff_of d, diff_of y) (simp differences (diff_same _ _ _ _ (omega arith)))
