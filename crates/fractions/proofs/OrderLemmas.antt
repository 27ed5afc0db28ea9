-- The order of ratios over positive divisors.
use Rattle.std.proofs.Common.{◌≡◌, ℤ, pos, ◌*ℤ◌, ◌≤ℤ◌, ◌<ℤ◌, true, false, sym, arith}
use Rattle.std.specs.Prelude.{int_lt}
use Rattle.std.proofs.lemmas.Int.{by_lt_z}
use borrow.Author.Differences.{true_is_lt, false_is_lt}
use Rattle.units_core.proofs.Signed.{signed_arith}
use Rattle.units_core.proofs.Order.{cancel_order, times_order}
use Rattle.units_core.specs.Ratio.{Ratio}
use Rattle.fractions.specs.Order.{is_below}
use Rattle.fractions.proofs.RoundingLemmas.{turn}

-- not less
at_least_from : (x y : ℤ) → int_lt x y ≡ false → y ≤ℤ x
at_least_from x y h = by_lt_z x y (λ less. (cc (h, true_is_lt x y (omega (arith, signed_arith, less))))) (λ le. le)

not_less : (x y : ℤ) → y ≤ℤ x → int_lt x y ≡ false
not_less x y h = sym (false_is_lt x y (omega (arith, signed_arith, h)))

less_from : (x y : ℤ) → int_lt x y ≡ true → x <ℤ y
less_from x y h = by_lt_z x y (λ less. less) (λ le. (cc (h, false_is_lt x y (omega (arith, signed_arith, le)))))

pub below_not_self : (a : Ratio) → is_below a a ≡ false
below_not_self a = not_less (a.top *ℤ a.bottom) (a.top *ℤ a.bottom) (omega (arith, signed_arith))

pub below_not_back : (a b : Ratio) → is_below a b ≡ true → is_below b a ≡ false
below_not_back a b h = let less = less_from (a.top *ℤ b.bottom) (b.top *ℤ a.bottom) h in not_less (b.top *ℤ a.bottom) (a.top *ℤ b.bottom) (omega (arith, signed_arith, less))

-- a isn't below x, b isn't below a: so b isn't below x
pub below_chain : (x a b : Ratio) → pos 1 ≤ℤ x.bottom → pos 1 ≤ℤ a.bottom → pos 1 ≤ℤ b.bottom → is_below a x ≡ false → is_below b a ≡ false → is_below b x ≡ false
below_chain x a b px pa pb h k =
    let one = at_least_from (a.top *ℤ x.bottom) (x.top *ℤ a.bottom) h in
    let two = at_least_from (b.top *ℤ a.bottom) (a.top *ℤ b.bottom) k in
    let first = rw (turn x.top a.bottom b.bottom, turn a.top x.bottom b.bottom) at (times_order (x.top *ℤ a.bottom) (a.top *ℤ x.bottom) b.bottom (omega (arith, signed_arith, pb)) one) in
    let next = rw (turn a.top b.bottom x.bottom, turn b.top a.bottom x.bottom) at (times_order (a.top *ℤ b.bottom) (b.top *ℤ a.bottom) x.bottom (omega (arith, signed_arith, px)) two) in
    let all : ((x.top *ℤ b.bottom) *ℤ a.bottom) ≤ℤ ((b.top *ℤ x.bottom) *ℤ a.bottom) = omega (arith, signed_arith, first, next, turn a.top x.bottom b.bottom) in
    not_less (b.top *ℤ x.bottom) (x.top *ℤ b.bottom) (cancel_order (x.top *ℤ b.bottom) (b.top *ℤ x.bottom) a.bottom pa all)
