-- Numbers in a fixed number of digits.
use Rattle.std.proofs.Common.{◌≡◌, ℕ, ◌-◌, ◌^◌, [], ◌++◌, length, replicate, false, arith, decimal}
use Rattle.std.proofs.lemmas.List.{append-nil}
use Rattle.std.specs.Fmt.{padded_integral, format_spec, char_count}
use Rattle.port_call.specs.Shown.{in_digits}

-- what `{:03}` and `{:02}` write
pub zeros_before : (count n : ℕ) → padded_integral (format_spec 32 0 4 count (2 ^ 64 - 1)) false [] (decimal n) ≡ in_digits count n
unfolding padded_integral char_count
zeros_before count n =
    let all : count - length (decimal n) - 0 - 0 ≡ count - length (decimal n) = omega arith in
    λ j. replicate (all j) 48 ++ append-nil (decimal n) j
