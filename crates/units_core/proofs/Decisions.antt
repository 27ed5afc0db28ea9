-- What is decided on the code's fraction is decided of the textbook's ratio, and both round down alike.
use Rattle.std.proofs.Common.{◌≡◌, ◌<◌, ℤ, pos, negsuc, ◌+ℤ◌, ◌-ℤ◌, ◌*ℤ◌, ◌≤ℤ◌, ◌<ℤ◌, sym, ◌∙◌, arith}
use Rattle.std.specs.Prelude.{int_le}
use Rattle.std.specs.Int.{int_div_euclid}
use borrow.Author.Differences.{true_is_le, false_is_le}
use Rattle.std.proofs.lemmas.Int.{by_lt_z}
use Rattle.units_core.proofs.Signed.{signed_arith, int_div_euclid-parts, distributes, product_positive}
use Rattle.units_core.proofs.Order.{cancel_order, times_order}
use Rattle.units_core.proofs.Ring.{diff_of, diff_same, differences, one_times}
use Rattle.units_core.proofs.Ratios.{at_least_in, at_least_out, floor_in, order_in}
use Rattle.units_core.specs.Ratio.{Ratio, ◌over◌, Is, IsFloor, floor_of, is_at_least, is_at_most, is_no_more}

-- two tests that hold of the same
pub same_test : (a b c d : ℤ) → (a ≤ℤ b → c ≤ℤ d) → (c ≤ℤ d → a ≤ℤ b) → int_le a b ≡ int_le c d
same_test a b c d f g =
    by_lt_z b a
    (λ less. sym (false_is_le a b (omega (arith, signed_arith, less))) ∙ false_is_le c d (by_lt_z d c (λ l. omega (arith, signed_arith, l)) (λ le. absurd (omega (arith, signed_arith, less, g le)))))
    (λ le. sym (true_is_le a b (omega (arith, signed_arith, le))) ∙ true_is_le c d (omega (arith, signed_arith, f le)))

pub at_least_same : (n d : ℤ) (r : Ratio) (k : ℤ) → Is n d r → int_le (k *ℤ d) n ≡ is_at_least r k
at_least_same n d r k p = same_test (k *ℤ d) n (k *ℤ r.bottom) r.top (at_least_in n d r k p) (at_least_out n d r k p)

swap : (k b d : ℤ) → (k *ℤ b) *ℤ d ≡ (k *ℤ d) *ℤ b
swap k b d = rw (diff_of k, diff_of b, diff_of d) (simp differences (diff_same _ _ _ _ (omega arith)))

pub at_most_in : (n d : ℤ) (r : Ratio) (k : ℤ) → Is n d r → n ≤ℤ (k *ℤ d) → r.top ≤ℤ (k *ℤ r.bottom)
at_most_in n d r k p h = cancel_order r.top (k *ℤ r.bottom) d p.0 (rw (← p.2) (rw (swap k r.bottom d) (times_order n (k *ℤ d) r.bottom (omega (arith, signed_arith, p.1)) h)))

pub at_most_out : (n d : ℤ) (r : Ratio) (k : ℤ) → Is n d r → r.top ≤ℤ (k *ℤ r.bottom) → n ≤ℤ (k *ℤ d)
at_most_out n d r k p h = cancel_order n (k *ℤ d) r.bottom p.1 (rw p.2 (rw (swap k d r.bottom) (times_order r.top (k *ℤ r.bottom) d (omega (arith, signed_arith, p.0)) h)))

pub at_most_same : (n d : ℤ) (r : Ratio) (k : ℤ) → Is n d r → int_le n (k *ℤ d) ≡ is_at_most r k
at_most_same n d r k p = same_test n (k *ℤ d) r.top (k *ℤ r.bottom) (at_most_in n d r k p) (at_most_out n d r k p)

-- a ratio's greatest whole number below it is one alone
pub floor_is : (r : Ratio) → pos 1 ≤ℤ r.bottom → IsFloor (floor_of r) r
floor_is r h = by_sign r.top r.bottom h where
  by_sign : (n d : ℤ) → pos 1 ≤ℤ d → IsFloor (int_div_euclid n d) (n over d)
  by_sign n (pos d) h =
      let positive : 0 < d = omega (arith, signed_arith, h) in
      let parts = int_div_euclid-parts n d positive in
      (omega (arith, signed_arith, parts.0), rw (distributes (int_div_euclid n (pos d)) (pos 1) (pos d)) (omega (arith, signed_arith, parts.1)))
  by_sign n (negsuc d) h = absurd (omega (arith, signed_arith, h))

cancel_strict : (x y d : ℤ) → pos 1 ≤ℤ d → (x *ℤ d) <ℤ (y *ℤ d) → x <ℤ y
cancel_strict x y d h k = by_lt_z x y (λ less. less) (λ le. absurd (omega (arith, signed_arith, k, times_order y x d (omega (arith, signed_arith, h)) le)))

below : (q q' : ℤ) (r : Ratio) → pos 1 ≤ℤ r.bottom → IsFloor q r → IsFloor q' r → q ≤ℤ q'
below q q' r h a b =
    let less = cancel_strict q (q' +ℤ pos 1) r.bottom h (omega (arith, signed_arith, a.0, b.1)) in
    omega (arith, signed_arith, less)

pub floor_unique : (q q' : ℤ) (r : Ratio) → pos 1 ≤ℤ r.bottom → IsFloor q r → IsFloor q' r → q ≡ q'
floor_unique q q' r h a b = omega (arith, signed_arith, below q q' r h a b, below q' q r h b a)

pub floor_same : (n d : ℤ) (r : Ratio) → Is n d r → floor_of (n over d) ≡ floor_of r
floor_same n d r p =
    let own = floor_is (n over d) p.0 in
    floor_unique (floor_of (n over d)) (floor_of r) r p.1 (floor_in (floor_of (n over d)) n d r p own.0 own.1) (floor_is r p.1)

-- over one denominator the order is that of the numbers
order_out : (n m d : ℤ) (a b : Ratio) → Is n d a → Is m d b → (a.top *ℤ b.bottom) ≤ℤ (b.top *ℤ a.bottom) → n ≤ℤ m
order_out n m d a b p q h =
    let long = times_order (a.top *ℤ b.bottom) (b.top *ℤ a.bottom) d (omega (arith, signed_arith, p.0)) h in
    let left : n *ℤ (a.bottom *ℤ b.bottom) ≡ (a.top *ℤ b.bottom) *ℤ d = outer n a.bottom b.bottom ∙ (rw p.2 (inner a.top d b.bottom)) in
    let right : m *ℤ (a.bottom *ℤ b.bottom) ≡ (b.top *ℤ a.bottom) *ℤ d = swapped m a.bottom b.bottom ∙ (rw q.2 (inner b.top d a.bottom)) in
    cancel_order n m (a.bottom *ℤ b.bottom) (product_positive a.bottom b.bottom p.1 q.1) (rw (left, right) long) where
      outer : (n x y : ℤ) → n *ℤ (x *ℤ y) ≡ (n *ℤ x) *ℤ y
      outer n x y = rw (diff_of n, diff_of x, diff_of y) (simp differences (diff_same _ _ _ _ (omega arith)))

      swapped : (n x y : ℤ) → n *ℤ (x *ℤ y) ≡ (n *ℤ y) *ℤ x
      swapped n x y = rw (diff_of n, diff_of x, diff_of y) (simp differences (diff_same _ _ _ _ (omega arith)))

      inner : (t d y : ℤ) → (t *ℤ d) *ℤ y ≡ (t *ℤ y) *ℤ d
      inner t d y = rw (diff_of t, diff_of d, diff_of y) (simp differences (diff_same _ _ _ _ (omega arith)))

pub no_more_same : (n m d : ℤ) (a b : Ratio) → Is n d a → Is m d b → int_le n m ≡ is_no_more a b
no_more_same n m d a b p q = same_test n m (a.top *ℤ b.bottom) (b.top *ℤ a.bottom) (order_in n m d a b p q) (order_out n m d a b p q)

-- what makes a number a quotient rounded down: what it leaves
pub quotient_by : (n q d : ℤ) → pos 0 ≤ℤ (n -ℤ (q *ℤ d)) → (n -ℤ (q *ℤ d)) <ℤ d → IsFloor q (n over d)
quotient_by n q d low small = (first n (q *ℤ d) low, rw (distributes q (pos 1) d, one_times d) (second n (q *ℤ d) d small)) where
  first : (n p : ℤ) → pos 0 ≤ℤ (n -ℤ p) → p ≤ℤ n
  first n p h = omega (arith, signed_arith, h)

  second : (n p d : ℤ) → (n -ℤ p) <ℤ d → n <ℤ (p +ℤ d)
  second n p d h = omega (arith, signed_arith, h)

pub quotient_is : (n q d : ℤ) → pos 1 ≤ℤ d → pos 0 ≤ℤ (n -ℤ (q *ℤ d)) → (n -ℤ (q *ℤ d)) <ℤ d → q ≡ int_div_euclid n d
quotient_is n q d positive low small = floor_unique q (floor_of (n over d)) (n over d) positive (quotient_by n q d low small) (floor_is (n over d) positive)
