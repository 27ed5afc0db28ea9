-- Bookkeeping: the ratio of a mark, a number of parts of which there are 4096 to one.
use Rattle.std.specs.Prelude.{ℤ, pos}
use Rattle.units_core.specs.Ratio.{Ratio, ◌over◌}

abbrev pub at_mark : ℤ → Ratio
at_mark m = m over pos 4096
