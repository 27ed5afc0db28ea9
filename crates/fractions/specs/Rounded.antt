-- Values, limits and margins in print, in units of which there are s to one.
use Rattle.std.specs.Prelude.{◌≡◌, ℕ, ℤ, pos, neg_ℤ, ◌*ℤ◌, ◌≤ℤ◌, int_lt, true, false, not}
use Rattle.units_core.specs.Ratio.{Ratio, ◌over◌, ◌⊖◌, ◌⊘◌, floor_of, is_no_more}

-- rounded toward minus infinity, and toward plus infinity
abbrev pub down : Ratio → ℕ → ℤ
down r s = floor_of ((r.top *ℤ pos s) over r.bottom)

abbrev pub up : Ratio → ℕ → ℤ
up r s = neg_ℤ (floor_of (neg_ℤ (r.top *ℤ pos s) over r.bottom))

-- A value that has to be at least its limit: both are rounded down, and so is the margin, which is
-- the value less the limit. The margin is negative exactly where the limit isn't kept; a value that
-- keeps it never shows less than it, and one that doesn't never more.
pub record AtLeastInPrint (value limit : Ratio) (s : ℕ) : Type 0 where
  pub sign : int_lt (down (value ⊖ limit) s) (pos 0) ≡ not (is_no_more limit value)
  pub kept : is_no_more limit value ≡ true → down limit s ≤ℤ down value s
  pub broken : is_no_more limit value ≡ false → down value s ≤ℤ down limit s

-- A value that may be at most its limit: both are rounded up, and the margin, which is the limit
-- less the value, down.
pub record AtMostInPrint (value limit : Ratio) (s : ℕ) : Type 0 where
  pub sign : int_lt (down (limit ⊖ value) s) (pos 0) ≡ not (is_no_more value limit)
  pub kept : is_no_more value limit ≡ true → up value s ≤ℤ up limit s
  pub broken : is_no_more value limit ≡ false → up limit s ≤ℤ up value s

-- how much a part is of a whole, in percent, rounded up
abbrev pub percent : Ratio → Ratio → ℤ
percent part all = up (part ⊘ all) 100

-- it is over 100 exactly where the part is more than the whole
abbrev pub PercentInPrint : Ratio → Ratio → Type 0
PercentInPrint part all = int_lt (pos 100) (percent part all) ≡ not (is_no_more part all)
