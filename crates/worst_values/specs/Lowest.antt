-- A ratio in lowest terms: one value for each number, whatever fraction of it is at hand.
use Rattle.std.specs.Prelude.{ℕ, ◌*◌, ◌%◌, pos, ◌*ℤ◌, unsigned_abs, nat_eq, find, unwrap_or}
use Rattle.std.specs.List.{range_with_len}
use Rattle.std.specs.Int.{int_div_euclid}
use Rattle.units_core.specs.Ratio.{Ratio, ◌over◌}

-- the least divisor over which n / d is a fraction of whole numbers
unfoldable pub least_divisor : ℕ → ℕ → ℕ
least_divisor n d = unwrap_or (find (λ m. nat_eq ((n * m) % d) 0) (range_with_len 1 d)) 1

abbrev pub over_divisor : ℕ → Ratio → Ratio
over_divisor m r = int_div_euclid (r.top *ℤ pos m) r.bottom over pos m

unfoldable pub lowest : Ratio → Ratio
lowest r = over_divisor (least_divisor (unsigned_abs r.top) (unsigned_abs r.bottom)) r
