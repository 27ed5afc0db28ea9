-- The text of several whole numbers.
use Rattle.std.specs.Prelude.{ℕ, zero, suc, ℤ, pos, List, ◌∷◌, ◌++◌, flat_map, slice_index_or}
use Rattle.std.specs.Fmt.{signed_decimal}

-- whole numbers, each behind a byte
abbrev pub behind_each : ℕ → List ℤ → List ℕ
behind_each byte numbers = flat_map (λ n. byte ∷ signed_decimal n) numbers

-- the entries of a list by their places
abbrev pub entry : List ℤ → ℕ → ℤ
entry numbers i = slice_index_or numbers i (pos 0)

-- two whole numbers with a byte between them
abbrev pub pair_text : ℕ → ℤ → ℤ → List ℕ
pair_text between x y = signed_decimal x ++ (between ∷ signed_decimal y)

-- the pairs up to the n-th, each but the first behind a byte
abbrev pub pairs_up_to : ℕ → ℕ → (ℕ → ℤ) → (ℕ → ℤ) → ℕ → List ℕ
pairs_up_to parting between xs ys zero = pair_text between (xs 0) (ys 0)
pairs_up_to parting between xs ys (suc n) =
    pairs_up_to parting between xs ys n ++ (parting ∷ pair_text between (xs (suc n)) (ys (suc n)))
