-- Which of two shares of a limit is more. One that no number tells is more than any: something, of
-- nothing or less.
use Rattle.std.specs.Prelude.{ℤ, Bool, true, false, not, cond, Option, None, Some}
use Rattle.units_core.specs.Ratio.{◌over◌}
use Rattle.units_core.specs.declared.fractions.Frac.{Frac}
use Rattle.fractions.specs.Marks.{at_mark}
use Rattle.fractions.specs.Order.{is_below}

-- whether the first is more than the second
abbrev pub is_more : Option Frac → Option Frac → Bool
is_more one None = false
is_more None (Some other) = true
is_more (Some one) (Some other) = is_below (other.num over other.den) (one.num over one.den)

-- the first, unless the second is more
abbrev pub greater_of : Option Frac → Option Frac → Option Frac
greater_of one other = cond (is_more other one) other one

-- Bookkeeping: a share isn't less than its mark, if it has one.
abbrev pub is_marked : Option Frac → Option ℤ → Bool
is_marked share None = true
is_marked None (Some mark) = true
is_marked (Some share) (Some mark) = not (is_below (share.num over share.den) (at_mark mark))
