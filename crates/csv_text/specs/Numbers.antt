-- The number that a field writes: spaces (code 32) may be at both ends, then a minus (45) or none,
-- then 1 to 18 digits.
use Rattle.std.specs.Prelude.{ℕ, ℤ, pos, neg_ℤ, List, [], ◌∷◌, ◌==◌, ◌&&◌, if◌then◌else◌, nat_le}
use Rattle.std.specs.Prelude.{length, Option, Some, None, option_map}
use Rattle.std.specs.List.{list_all}
use Rattle.std.specs.Char.{is_ascii_digit}
use Rattle.std.specs.Str.Parse.{digits_value}

-- the text without the spaces that it begins with
abbrev pub after_spaces : List ℕ → List ℕ
after_spaces [] = []
after_spaces (c ∷ cs) = if c == 32 then after_spaces cs else c ∷ cs

-- a byte before the rest of a text: a space before nothing is nothing
abbrev pub unless_last_space : ℕ → List ℕ → List ℕ
unless_last_space c [] = if c == 32 then [] else c ∷ []
unless_last_space c (d ∷ ds) = c ∷ d ∷ ds

-- the text without the spaces that it ends with
abbrev pub before_spaces : List ℕ → List ℕ
before_spaces [] = []
before_spaces (c ∷ cs) = unless_last_space c (before_spaces cs)

-- the number that digits write, of which there are at least 1 and at most so many
abbrev pub natural_in : ℕ → List ℕ → Option ℕ
natural_in most ds =
    if (nat_le 1 (length ds) && nat_le (length ds) most)
    && list_all is_ascii_digit ds then Some (digits_value 10 ds) else None

-- the number that a minus or none, and digits write
abbrev pub signed_in : List ℕ → Option ℤ
signed_in [] = None
signed_in (c ∷ cs) =
    if c == 45 then option_map (λ n. neg_ℤ (pos n)) (natural_in 18 cs)
    else option_map (λ n. pos n) (natural_in 18 (c ∷ cs))

-- the number of a field
abbrev pub number_in : List ℕ → Option ℤ
number_in text = signed_in (before_spaces (after_spaces text))
