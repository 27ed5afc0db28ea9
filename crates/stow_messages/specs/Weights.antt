-- The mass that a weight's text writes, in kg: digits, and optionally a decimal mark and further
-- digits.
use Rattle.std.specs.Prelude.{ℕ, ◌+◌, List, [], ◌∷◌, length, Option, Some, None, Bool, true, false}
use Rattle.std.specs.Prelude.{nat_le, ◌==◌, not, ◌&&◌, ◌||◌, if◌then◌else◌}
use Rattle.std.specs.Char.{is_ascii_digit}
use Rattle.std.specs.List.{list_all}
use Rattle.std.specs.Str.Parse.{digits_value}

-- the digits in front, and what is behind them
abbrev pub digits_of : List ℕ → List ℕ
digits_of [] = []
digits_of (b ∷ bs) = if is_ascii_digit b then b ∷ digits_of bs else []

abbrev pub behind_digits : List ℕ → List ℕ
behind_digits [] = []
behind_digits (b ∷ bs) = if is_ascii_digit b then behind_digits bs else b ∷ bs

abbrev pub begins_with_digit : List ℕ → Bool
begins_with_digit [] = false
begins_with_digit (b ∷ bs) = is_ascii_digit b

-- Nothing, or a mark and any number of digits. The marks are `.` (code 46), `,` (44) and the
-- interchange's own. What follows the digits in front is no digit, so a decimal mark that is a
-- digit never is a mark here.
abbrev pub is_fraction : ℕ → List ℕ → Bool
is_fraction mark [] = true
is_fraction mark (b ∷ bs) = (b == 46 || b == 44 || b == mark) && list_all is_ascii_digit bs

-- a fraction that isn't zero: not all of its digits are 0 (code 48)
abbrev pub is_above_zero : List ℕ → Bool
is_above_zero [] = false
is_above_zero (b ∷ bs) = not (list_all (λ d. d == 48) bs)

-- a container's mass has six digits at most
abbrev pub in_six_digits : ℕ → Option ℕ
in_six_digits n = if nat_le n 999999 then Some n else None

-- the mass of a text, a fraction that isn't zero rounded up
abbrev pub kg_of : ℕ → List ℕ → Option ℕ
kg_of mark text =
    if begins_with_digit text && is_fraction mark (behind_digits text)
    then in_six_digits
    (digits_value 10 (digits_of text) + (if is_above_zero (behind_digits text) then 1 else 0))
    else None

-- the whole value has at most 35 bytes
abbrev pub kg_in : ℕ → List ℕ → Option ℕ
kg_in mark text = if nat_le (length text) 35 then kg_of mark text else None
