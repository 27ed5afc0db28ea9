-- Bookkeeping: four digits of a number below 10,000, and a table of them.
use Rattle.std.specs.Prelude.{◌≡◌, ℕ, ◌+◌, ◌/◌, ◌%◌, ◌<◌, List, [], ◌∷◌, length, slice_index_or}
use Rattle.std.specs.Fmt.{decimal}

abbrev pub quad : ℕ → List ℕ
quad n = (48 + n / 100 / 10) ∷ (48 + n / 100 % 10) ∷ (48 + n % 100 / 10) ∷ (48 + n % 100 % 10) ∷ []

-- the first `many` entries of a table are the digits of their indices
abbrev pub AreQuads : List (List ℕ) → ℕ → Type 0
AreQuads table many = (n : ℕ) → n < many → slice_index_or table n [] ≡ quad n

-- for the first `many` numbers: how many zeros each has in front, among its four digits
abbrev pub AreZeros : List ℕ → ℕ → Type 0
AreZeros zeros many = (n : ℕ) → n < many → slice_index_or zeros n 0 + length (decimal n) ≡ 4
