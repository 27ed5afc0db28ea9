-- A floor of a product whose factor is taken apart by the divisor; and percent by it.
use Rattle.std.proofs.Common.{◌≡◌, ◌∙◌, ◌≤◌, ◌^◌, ℤ, pos, negsuc, neg_ℤ, ◌+ℤ◌, ◌-ℤ◌, ◌*ℤ◌, ◌≤ℤ◌, ◌<ℤ◌, unsigned_abs, ap, arith}
use Rattle.units_core.proofs.Signed.{signed_arith, distributes, one_part}
use Rattle.units_core.proofs.Order.{times_order}
use Rattle.units_core.proofs.Decisions.{floor_is, floor_same, floor_unique}
use Rattle.units_core.specs.Ratio.{Is, IsFloor, Ratio, ◌over◌, floor_of, whole}
use Rattle.fractions.specs.Rounded.{up}
use Rattle.fractions.proofs.RoundingLemmas.{negated_is, times_is, turn, ups}

-- floor ((q d + r) k / d) = q k + floor (r k / d)
pub floor_apart : (q r k d : ℤ) → pos 1 ≤ℤ d → floor_of ((((q *ℤ d) +ℤ r) *ℤ k) over d) ≡ (q *ℤ k) +ℤ floor_of ((r *ℤ k) over d)
floor_apart q r k d h =
    let f = floor_of ((r *ℤ k) over d) in
    let is = floor_is ((r *ℤ k) over d) h in
    let all : ((q *ℤ d) +ℤ r) *ℤ k ≡ ((q *ℤ k) *ℤ d) +ℤ (r *ℤ k) = distributes (q *ℤ d) r k ∙ ap (λ x. x +ℤ (r *ℤ k)) (turn q d k) in
    let low : ((q *ℤ k) +ℤ f) *ℤ d ≡ ((q *ℤ k) *ℤ d) +ℤ (f *ℤ d) = distributes (q *ℤ k) f d in
    let next : (((q *ℤ k) +ℤ f) +ℤ pos 1) *ℤ d ≡ ((q *ℤ k) *ℤ d) +ℤ ((f +ℤ pos 1) *ℤ d) =
    ap (λ x. x *ℤ d) (omega (arith, signed_arith)) ∙ distributes (q *ℤ k) (f +ℤ pos 1) d in
    floor_unique (floor_of ((((q *ℤ d) +ℤ r) *ℤ k) over d)) ((q *ℤ k) +ℤ f) ((((q *ℤ d) +ℤ r) *ℤ k) over d) h
    (floor_is ((((q *ℤ d) +ℤ r) *ℤ k) over d) h)
    (omega (arith, signed_arith, all, low, is.0), omega (arith, signed_arith, all, next, is.1))

-- percent, rounded up, with the whole part taken apart
turned : (n x : ℤ) → neg_ℤ (n *ℤ pos 100) ≡ (x +ℤ (n -ℤ x)) *ℤ negsuc 99
turned n x = omega (arith, signed_arith)

by_minus : (m : ℤ) → m *ℤ negsuc 99 ≡ neg_ℤ (m *ℤ pos 100)
by_minus m = omega (arith, signed_arith)

back : (q f : ℤ) → neg_ℤ ((q *ℤ negsuc 99) +ℤ f) ≡ (pos 100 *ℤ q) +ℤ neg_ℤ f
back q f = omega (arith, signed_arith)

pub percent_apart : (q n d : ℤ) → pos 1 ≤ℤ d → up (n over d) 100 ≡ (pos 100 *ℤ q) +ℤ up ((n -ℤ (q *ℤ d)) over d) 100
percent_apart q n d h =
    let m = n -ℤ (q *ℤ d) in
    ap (λ (x : ℤ). neg_ℤ (floor_of (x over d))) (turned n (q *ℤ d))
    ∙ ap neg_ℤ (floor_apart q m (negsuc 99) d h ∙ ap (λ (x : ℤ). (q *ℤ negsuc 99) +ℤ floor_of (x over d)) (by_minus m))
    ∙ back q (floor_of (neg_ℤ (m *ℤ pos 100) over d))

pub same_percent : (n d : ℤ) (r : Ratio) → Is n d r → up (n over d) 100 ≡ up r 100
same_percent n d r p =
    ap neg_ℤ (floor_same (neg_ℤ (n *ℤ pos 100)) d (neg_ℤ (r.top *ℤ pos 100) over r.bottom)
    (negated_is (n *ℤ pos 100) d ((r.top *ℤ pos 100) over r.bottom) (times_is n d r 100 p)))

-- of ten times the whole, and of nothing
pub ten_or_more : (n d : ℤ) → pos 1 ≤ℤ d → pos 10 ≤ℤ floor_of (n over d) → pos 1000 ≤ℤ up (n over d) 100
ten_or_more n d h ten =
    let f = floor_is (n over d) h in
    let step = times_order (pos 10) (floor_of (n over d)) d (omega (arith, signed_arith, h)) ten in
    ups (whole (pos 10)) (n over d) 100 (omega arith) h (omega (arith, signed_arith, f.0, step))

pub not_negative : (n d : ℤ) → pos 1 ≤ℤ d → pos 0 ≤ℤ n → pos 0 ≤ℤ up (n over d) 100
not_negative n d h some = ups (whole (pos 0)) (n over d) 100 (omega arith) h (omega (arith, signed_arith, some))

-- what is left of a fraction without its whole part is less than one
pub rest_within : (q n d : ℤ) → pos 1 ≤ℤ d → unsigned_abs d ≤ 10 ^ 36 → IsFloor q (n over d) → unsigned_abs (n -ℤ (q *ℤ d)) ≤ 10 ^ 36
rest_within q n d h size is = within n (q *ℤ d) d h size is.0 (omega (arith, signed_arith, distributes q (pos 1) d, is.1)) where
  within : (n x d : ℤ) → pos 1 ≤ℤ d → unsigned_abs d ≤ 10 ^ 36 → x ≤ℤ n → n <ℤ (x +ℤ d) → unsigned_abs (n -ℤ x) ≤ 10 ^ 36
  within n x d h size low high = omega (arith, signed_arith, h, size, low, high, one_part d, one_part (n -ℤ x))

pub rest_sign : (q n d : ℤ) → IsFloor q (n over d) → pos 0 ≤ℤ (n -ℤ (q *ℤ d))
rest_sign q n d is = omega (arith, signed_arith, is.0)

pub rest_percent_sign : (q n d : ℤ) → pos 1 ≤ℤ d → IsFloor q (n over d) → pos 0 ≤ℤ up ((n -ℤ (q *ℤ d)) over d) 100
rest_percent_sign q n d h is = not_negative (n -ℤ (q *ℤ d)) d h (rest_sign q n d is)

pub rest_percent_most : (q n d : ℤ) → pos 1 ≤ℤ d → IsFloor q (n over d) → up ((n -ℤ (q *ℤ d)) over d) 100 ≤ℤ pos 100
rest_percent_most q n d h is =
    ups ((n -ℤ (q *ℤ d)) over d) (whole (pos 1)) 100 h (omega arith) (below n (q *ℤ d) d (omega (arith, signed_arith, distributes q (pos 1) d, is.1)))
  where
    below : (n x d : ℤ) → n <ℤ (x +ℤ d) → ((n -ℤ x) *ℤ pos 1) ≤ℤ (pos 1 *ℤ d)
    below n x d high = omega (arith, signed_arith, high)

pub not_negative_product : (n e : ℤ) → pos 0 ≤ℤ n → pos 1 ≤ℤ e → pos 0 ≤ℤ (n *ℤ e)
not_negative_product n e some h = omega (arith, signed_arith, times_order (pos 0) n e (omega (arith, signed_arith, h)) some)

pub natural : (z : ℤ) → pos 0 ≤ℤ z → pos (unsigned_abs z) ≡ z
natural z some = omega (arith, signed_arith, some, one_part z)
