-- The lines of a text and the words of a line, cut off one by one.
use Rattle.std.proofs.Common.{◌≡◌, ◌∙◌, ℕ, suc, ◌+◌, ◌<◌, ◌≤◌, ◌==◌, false, List, [], ◌∷◌, ◌++◌, ◌≢◌, append_assoc, map, length, length-append, Option, None, Some, MatchOption, unwrap_or, refl, sym, ap, arith, inl, inr, Bool, true, if◌then◌else◌}
use Rattle.std.specs.List.{All, onto_first}
use Rattle.std.specs.Borrow.{Bor}
use Rattle.std.proofs.lemmas.List.{length-map, map-append}
use Rattle.std.proofs.lemmas.List.Splits.{slice_split_none, slice_split_at, length-slice_split}
use Rattle.std.proofs.lemmas.Bool.{eqb-true}
use Rattle.edits_file.specs.Faults.{AreLines}
use Rattle.edits_file.specs.Forms.{edit_of}
use Rattle.edits_file.specs.Words.{lines_in, words_in}

-- the lines of a text are the text again
pub are_lines : (text : List ℕ) → AreLines text (lines_in text)
are_lines [] = inl refl
are_lines (c ∷ cs) = go (c == 10) refl (lines_in cs) (are_lines cs)
  where
    go : (b : Bool) → (c == 10) ≡ b → (lines : List (List ℕ)) → AreLines cs lines
        → AreLines (c ∷ cs) (if b then [] ∷ lines else onto_first c lines)
    go true e lines (inl h) = let is : c ≡ 10 = eqb-true c 10 e in inl (λ i. is i ∷ h i)
    go true e lines (inr h) = let is : c ≡ 10 = eqb-true c 10 e in inr (λ i. is i ∷ h i)
    go false e [] (inl h) = inr (ap (λ rest. c ∷ (rest ++ 10 ∷ [])) h)
    go false e [] (inr h) = absurd (omega (arith, ap length h, length-append cs (10 ∷ [])))
    go false e (line ∷ lines) (inl h) = inl (ap (λ rest. c ∷ rest) h)
    go false e (line ∷ lines) (inr h) = inr (ap (λ rest. c ∷ rest) h)

-- a text without LF is one line, unless it is empty
pub lines_last : (line : List ℕ) → All (λ c. (c == 10) ≡ false) line → 0 < length line → lines_in line ≡ line ∷ []
lines_last [] h some = absurd (omega arith)
lines_last (c ∷ []) h some = let here : (c == 10) ≡ false = h 0 c (omega arith) in rw here refl
lines_last (c ∷ d ∷ cs) h some =
    let here : (c == 10) ≡ false = h 0 c (omega arith) in
    rw here (ap (onto_first c) (lines_last (d ∷ cs) (λ k e inside. h (suc k) e (omega arith)) (omega arith)))

-- a line before the first LF
pub lines_at : (line rest : List ℕ) → All (λ c. (c == 10) ≡ false) line → lines_in (line ++ 10 ∷ rest) ≡ line ∷ lines_in rest
lines_at [] rest h = refl
lines_at (c ∷ cs) rest h =
    let here : (c == 10) ≡ false = h 0 c (omega arith) in
    rw here (ap (onto_first c) (lines_at cs rest (λ k e inside. h (suc k) e (omega arith))))

-- the first line of a text that isn't empty, by what stands before its first LF, and what stands behind that
pub line_cut : (text line : List ℕ) (behind : Option (Bor (List ℕ))) (none : Bor (List ℕ)) → none.now ≡ [] → 0 < length text
    → All (λ c. (c == 10) ≡ false) line → MatchOption behind (text ≡ line) (λ rest. text ≡ line ++ 10 ∷ rest.now)
    → lines_in text ≡ line ∷ lines_in (unwrap_or behind none).now
line_cut text line None none e some h all =
    let long : 0 < length line = rw (← all) some in
    rw (all, e) (lines_last line h long)
line_cut text line (Some rest) none e some h cut = ap lines_in cut ∙ lines_at line rest.now h

-- the same by what is then left
pub line_behind : (text line : List ℕ) (behind : Option (Bor (List ℕ))) (none after : Bor (List ℕ)) → after ≡ unwrap_or behind none → none.now ≡ [] → 0 < length text
    → All (λ c. (c == 10) ≡ false) line → MatchOption behind (text ≡ line) (λ rest. text ≡ line ++ 10 ∷ rest.now) → lines_in text ≡ line ∷ lines_in after.now
line_behind text line behind none after is e some h cut = line_cut text line behind none e some h cut ∙ ap (λ (b : Bor (List ℕ)). line ∷ lines_in b.now) (sym is)

-- what stands behind it is shorter
pub cut_shorter : (text line : List ℕ) (behind : Option (Bor (List ℕ))) (none after : Bor (List ℕ)) → after ≡ unwrap_or behind none → none.now ≡ [] → 0 < length text
    → MatchOption behind (text ≡ line) (λ rest. text ≡ line ++ 10 ∷ rest.now) → length after.now + 1 ≤ length text
cut_shorter text line None none after is e some all = omega (arith, some, ap length e, ap (λ (b : Bor (List ℕ)). length b.now) is)
cut_shorter text line (Some rest) none after is e some cut = omega (arith, ap length cut, length-append line (10 ∷ rest.now), ap (λ (b : Bor (List ℕ)). length b.now) is)

-- the words so far, and one more that ends at a space, or the last one
module _ {B : Type 0} (now : B → List ℕ) (words : List B) (line text : List ℕ) (h : map now words ++ words_in text ≡ words_in line) where
  pub words_more : (w : B) (behind : List ℕ) → All (λ c. (c == 32) ≡ false) (now w) → text ≡ now w ++ 32 ∷ behind
      → map now (words ++ w ∷ []) ++ words_in behind ≡ words_in line
  words_more w behind none cut =
      let here : words_in text ≡ now w ∷ words_in behind = ap words_in cut ∙ slice_split_at (λ c. c == 32) (now w) 32 behind none refl in
      ap (λ ws. ws ++ words_in behind) (map-append now words (w ∷ []))
      ∙ (append_assoc (map now words) (now w ∷ []) (words_in behind) ∙ (ap (λ ws. map now words ++ ws) (sym here) ∙ h))

  pub words_last : (w : B) → All (λ c. (c == 32) ≡ false) (now w) → text ≡ now w → map now (words ++ w ∷ []) ≡ words_in line
  words_last w none all =
      let here : words_in text ≡ now w ∷ [] = ap words_in all ∙ slice_split_none (λ c. c == 32) (now w) none in
      map-append now words (w ∷ []) ∙ (ap (λ ws. map now words ++ ws) (sym here) ∙ h)

  pub words_left : length words < length (words_in line)
  words_left =
      omega (arith, ap length h, length-append (map now words) (words_in text), length-map words now, length-slice_split (λ c. c == 32) text)

-- an edit has two, three, five or six words
pub no_edit : (words : List (List ℕ)) → length words ≢ 2 → length words ≢ 3 → length words ≢ 5 → length words ≢ 6 → edit_of words ≡ None
no_edit [] two three five six = refl
no_edit (a ∷ []) two three five six = refl
no_edit (a ∷ b ∷ []) two three five six = absurd (two refl)
no_edit (a ∷ b ∷ c ∷ []) two three five six = absurd (three refl)
no_edit (a ∷ b ∷ c ∷ d ∷ []) two three five six = refl
no_edit (a ∷ b ∷ c ∷ d ∷ e ∷ []) two three five six = absurd (five refl)
no_edit (a ∷ b ∷ c ∷ d ∷ e ∷ f ∷ []) two three five six = absurd (six refl)
no_edit (a ∷ b ∷ c ∷ d ∷ e ∷ f ∷ g ∷ more) two three five six = refl

pub too_many : (words : List (List ℕ)) → 6 < length words → edit_of words ≡ None
too_many words h = no_edit words (omega arith) (omega arith) (omega arith) (omega arith)
