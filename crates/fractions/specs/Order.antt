-- The order of two ratios over positive divisors: that of their cross products.
use Rattle.std.specs.Prelude.{◌*ℤ◌, int_lt, Bool}
use Rattle.std.specs.Ordering.{int_cmp}
use Rattle.std.specs.declared.cmp.Ordering.{Ordering}
use Rattle.units_core.specs.Ratio.{Ratio}

abbrev pub order_of : Ratio → Ratio → Ordering
order_of a b = int_cmp (a.top *ℤ b.bottom) (b.top *ℤ a.bottom)

-- whether the first is less
abbrev pub is_below : Ratio → Ratio → Bool
is_below a b = int_lt (a.top *ℤ b.bottom) (b.top *ℤ a.bottom)
