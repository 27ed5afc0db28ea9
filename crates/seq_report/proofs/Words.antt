-- Words, each behind a space, one before another.
use Rattle.std.proofs.Common.{◌≡◌, ◌∙◌, ℕ, List, [], ◌∷◌, ◌++◌, ap, refl, sym, append_assoc}
use Rattle.seq_report.specs.Columns.{spaced}

-- words before others
pub spaced-append : (xs ys : List (List ℕ)) → spaced (xs ++ ys) ≡ spaced xs ++ spaced ys
spaced-append [] ys = refl
spaced-append (x ∷ xs) ys =
    ap (λ (t : List ℕ). (32 ∷ x) ++ t) (spaced-append xs ys) ∙ sym (append_assoc (32 ∷ x) (spaced xs) (spaced ys))

-- words, one word and further words, written before a line from the last to the first
pub around_one : (front : List (List ℕ)) (word : List ℕ) (back : List (List ℕ)) (line behind with all : List ℕ) → behind ≡ spaced back ++ line
    → with ≡ (32 ∷ word) ++ behind → all ≡ spaced front ++ with → all ≡ spaced (front ++ (word ∷ back)) ++ line
around_one front word back line behind with all put-back put-word put-front =
    let ending : with ≡ spaced (word ∷ back) ++ line =
    put-word ∙ ap (λ (t : List ℕ). (32 ∷ word) ++ t) put-back ∙ sym (append_assoc (32 ∷ word) (spaced back) line) in
    put-front ∙ ap (λ (t : List ℕ). spaced front ++ t) ending ∙ sym (append_assoc (spaced front) (spaced (word ∷ back)) line)
    ∙ ap (λ (t : List ℕ). t ++ line) (sym (spaced-append front (word ∷ back)))
