-- What isn't more than a mark isn't more than a share that isn't less than the mark.
use Rattle.std.proofs.Common.{◌≡◌, ℤ, pos, ◌≤ℤ◌, Bool, true, false, not, Option, None, Some, refl, arith}
use Rattle.std.specs.Prelude.{IfSome}
use Rattle.units_core.proofs.Signed.{signed_arith}
use Rattle.units_core.specs.Ratio.{◌over◌}
use Rattle.units_core.specs.declared.fractions.Frac.{Frac}
use Rattle.fractions.specs.Marks.{at_mark}
use Rattle.fractions.specs.Order.{is_below}
use Rattle.fractions.proofs.OrderLemmas.{below_chain}
use Rattle.view_figures.specs.Shares.{is_marked, is_more}

is_false : (b : Bool) → not b ≡ true → b ≡ false
is_false true h = (cc)
is_false false h = refl

pub no_more_on : (s : Frac) (m : ℤ) (g : Option Frac) → is_below (at_mark m) (s.num over s.den) ≡ false → is_marked g (Some m) ≡ true → is_more (Some s) g ≡ false
no_more_on s m None h k = refl
no_more_on s m (Some g) h k =
    below_chain (s.num over s.den) (at_mark m) (g.num over g.den) s.positive (omega (arith, signed_arith)) g.positive h (is_false (is_below (g.num over g.den) (at_mark m)) k)

pub marked_by : (s : Frac) (o : Option ℤ) → IfSome o (λ m. is_below (s.num over s.den) (at_mark m) ≡ false) → is_marked (Some s) o ≡ true
marked_by s None h = refl
marked_by s (Some m) h = (cc h)
