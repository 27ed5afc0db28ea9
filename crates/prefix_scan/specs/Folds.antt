-- The join of a list of values, of all and of those up to each value.
use Rattle.std.specs.Prelude.{ℕ, List, take}
use Rattle.std.specs.List.{fold, scan}

-- the unit for no values, else the fold of all but the last joined with the last
abbrev pub folded : {M : Type 0} → M → (M → M → M) → List M → M
folded empty op xs = fold op empty xs

-- the fold of the first k values
abbrev pub prefix : {M : Type 0} → M → (M → M → M) → List M → ℕ → M
prefix empty op xs k = folded empty op (take k xs)

-- for each value the fold of those before it
abbrev pub offset_list : {M : Type 0} → M → (M → M → M) → List M → List M
offset_list empty op xs = scan op (λ sum x. sum) empty xs

-- from a first value on, the joins with one value more each
abbrev pub sums_from : {M : Type 0} → (M → M → M) → M → List M → List M
sums_from op a xs = scan op op a xs
