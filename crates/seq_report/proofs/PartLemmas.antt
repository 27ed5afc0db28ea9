-- A text that is written part by part: how much of it is written, and what is left of it.
use Rattle.std.proofs.Common.{◌≡◌, ◌∙◌, ℕ, suc, ◌+◌, ◌<◌, ◌≤◌, List, [], ◌∷◌, ◌++◌, length, take, drop, get_or, Option, ap, sym, subst, arith}
use Rattle.std.specs.Io.KnownBytes.{Appends}
use Rattle.std.proofs.KnownBytes.{Appends-trans}
use Rattle.std.proofs.Math.Seq.{take-add, take-length, drop-append_seam, drop-cons}
use Rattle.std.proofs.lemmas.List.{append-nil, append_assoc, drop-drop, drop_all, length-append, length-drop, take-append-le}
use Rattle.seq_report.specs.Chunks.{Part, text_in}

-- what is left of a text, and so how long the whole is
pub whole_length : (whole part rest : List ℕ) (put : ℕ) → put ≤ length whole → drop put whole ≡ part ++ rest → length whole ≡ put + (length part + length rest)
whole_length whole part rest put inside left =
    let behind = sym (length-drop put whole) ∙ ap length left ∙ length-append part rest in
    omega (arith, behind, inside)

-- the front of the whole that ends in the next part, and the front of this
pub up_to_part : (whole part rest : List ℕ) (put m : ℕ) → drop put whole ≡ part ++ rest → m ≤ length part → take (put + m) whole ≡ take put whole ++ take m part
up_to_part whole part rest put m left inside =
    take-add put m whole ∙ ap (λ (l : List ℕ). take put whole ++ take m l) left
    ∙ ap (λ (l : List ℕ). take put whole ++ l) (take-append-le m part rest inside)

pub behind_part : (whole part rest : List ℕ) (put : ℕ) → drop put whole ≡ part ++ rest → drop (put + length part) whole ≡ rest
behind_part whole part rest put left = sym (drop-drop (length part) put whole) ∙ ap (drop (length part)) left ∙ drop-append_seam part rest

-- what is left of a text whose next part is this section, and whose last part is this
module _ (whole : List ℕ) (put : ℕ) (sections : List Part) (i : ℕ) (last part : List ℕ) (left : drop put whole ≡ text_in (drop i sections) ++ last) where
  pub next_section : (section : Part) → i < length sections → section ≡ get_or sections i section → part ≡ section.text
      → drop put whole ≡ part ++ (text_in (drop (i + 1) sections) ++ last)
  next_section section inside is this =
      let next : suc i ≡ i + 1 = omega arith in
      let back = sym this in
      left
      ∙ ap (λ (l : List Part). text_in l ++ last) (drop-cons sections i section inside ∙ ap (λ (p : Part). p ∷ drop (suc i) sections) (sym is))
      ∙ append_assoc section.text (text_in (drop (suc i) sections)) last
      ∙ (λ j. back j ++ (text_in (drop (next j) sections) ++ last))

  pub last_part : length sections ≤ i → part ≡ last → drop put whole ≡ part ++ []
  last_part past this = left ∙ ap (λ (l : List Part). text_in l ++ last) (drop_all i sections past) ∙ sym this ∙ sym (append-nil part)

-- a part is written, whole or in its beginning
module _ (a b c : Option (List ℕ)) (whole part rest : List ℕ) (put : ℕ)
    (inside : put ≤ length whole) (left : drop put whole ≡ part ++ rest) (before : Appends a b (take put whole)) where
  pub part_put : (n : ℕ) → n ≡ put + length part → Appends b c part → Appends a c (take n whole)
  part_put n is all =
      subst (λ (m : ℕ). Appends a c (take m whole)) (sym is)
      (subst (Appends a c) (sym (up_to_part whole part rest put (length part) left (omega arith) ∙ ap (λ (l : List ℕ). take put whole ++ l) (take-length part)))
      (Appends-trans a b c _ _ before all))

  pub part_begun : (n m : ℕ) → n ≡ put + m → m ≤ length part → Appends b c (take m part) → Appends a c (take n whole)
  part_begun n m is few some =
      subst (λ (k : ℕ). Appends a c (take k whole)) (sym is)
      (subst (Appends a c) (sym (up_to_part whole part rest put m left few)) (Appends-trans a b c _ _ before some))
