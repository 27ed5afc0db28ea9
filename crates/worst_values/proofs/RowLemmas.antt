-- Rows, one by one; and lines, stretch by stretch.
use Rattle.std.proofs.Common.{◌≡◌, ◌∙◌, ℕ, zero, suc, ◌+◌, ◌<◌, Bool, List, [], ◌∷◌, ◌++◌, map, take, length, get_or, replicate, Option, None, option_map, refl, sym, ap, arith}
use Rattle.std.proofs.Math.ListN.{get_or-map}
use Rattle.std.proofs.lemmas.Grind.{flat_map-append}
use Rattle.std.proofs.lemmas.List.{append_assoc, append-nil, replicate-append-replicate, take_more}
use Rattle.worst_values.specs.declared.stretches.Stretch.{Stretch}
use Rattle.worst_values.specs.declared.row.Row.{Row}
use Rattle.worst_values.specs.Rows.{row_of}
use Rattle.worst_values.specs.Stretches.{lines_of, lines_of_all}
use Rattle.worst_values.specs.Worst.{Candidate, candidate_of}

-- what a row shows, and a row without a value
abbrev pub shown : Row → Option Candidate
shown row = option_map candidate_of row.worst

abbrev pub empty : Row
empty = record { worst = None; mark = None; marked = refl }

pub row_of_values : (xs : List Row) (j : ℕ) → row_of (map shown xs) j ≡ shown (get_or xs j empty)
row_of_values xs j = get_or-map shown xs j empty

-- inside of a list the default counts for nothing
pub any_default : {A : Type 0} (xs : List A) (i : ℕ) (a b : A) → i < length xs → get_or xs i a ≡ get_or xs i b
any_default [] i a b h = absurd (omega arith)
any_default (x ∷ xs) zero a b h = refl
any_default (x ∷ xs) (suc i) a b h = any_default xs i a b (omega arith)

-- lines that are alike, behind others
pub alike : (all now : List (List Bool)) (x y : List Bool) (m n k : ℕ) → all ++ replicate m x ≡ now → x ≡ y → k ≡ m + n → all ++ replicate k x ≡ now ++ replicate n y
alike all now x y m n k is same sum =
    ap (λ c. all ++ replicate c x) sum
    ∙ ap (λ (l : List (List Bool)). all ++ l) (sym (replicate-append-replicate m n x))
    ∙ sym (append_assoc all (replicate m x) (replicate n x))
    ∙ (λ j. is j ++ replicate n (same j))

-- one stretch more
pub stretches_more : (items : List Stretch) (i : ℕ) (s : Stretch) (first now new : List (List Bool)) → i < length items → s ≡ get_or items i s
    → now ≡ first ++ lines_of_all (take i items) → new ≡ now ++ lines_of s → new ≡ first ++ lines_of_all (take (i + 1) items)
stretches_more items i s first now new inside is so_far next =
    next ∙ ap (λ (l : List (List Bool)). l ++ lines_of s) so_far
    ∙ append_assoc first (lines_of_all (take i items)) (lines_of s)
    ∙ ap (λ (l : List (List Bool)). first ++ (lines_of_all (take i items) ++ l)) (sym (append-nil (lines_of s)))
    ∙ ap (λ (l : List (List Bool)). first ++ l) (sym (flat_map-append lines_of (take i items) (s ∷ [])))
    ∙ ap (λ (t : Stretch). first ++ lines_of_all (take i items ++ t ∷ [])) is
    ∙ ap (λ (l : List Stretch). first ++ lines_of_all l) (sym (take_more items i s inside))
