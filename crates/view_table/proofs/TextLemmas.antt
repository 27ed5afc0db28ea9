-- Texts that are written one before another.
use Rattle.std.proofs.Common.{◌≡◌, ◌∙◌, ℕ, zero, suc, ◌+◌, ◌<◌, ◌≤◌, ℤ, pos, List, [], ◌∷◌, ◌++◌, length, map, flat_map, take, drop, get_or, Option, None, Some, is_ok, refl, sym, ap, append_assoc, arith}
use Rattle.std.specs.Prelude.{⊤, Result, Ok, Err, OnOk, if◌then◌else◌}
use Rattle.std.specs.declared.alloc.AllocError.{AllocError}
use Rattle.std.specs.Fmt.{signed_decimal}
use Rattle.std.specs.List.{range_with_len}
use Rattle.std.proofs.Math.Seq.{drop-cons}
use Rattle.std.proofs.lemmas.Grind.{flat_map-append}
use Rattle.decimal_text.specs.Numbers.{behind_each}
use Rattle.units_core.specs.Interpolation.{at}
use Rattle.view_table.specs.Tables.{field, fields}

fields_some : (xs : List ℤ) → fields (map Some xs) ≡ behind_each 44 xs
fields_some [] = refl
fields_some (x ∷ xs) = ap (λ (t : List ℕ). (44 ∷ signed_decimal x) ++ t) (fields_some xs)

-- numbers, one number that may not be there and further numbers, before a text
pub around_one : (front : List ℤ) (o : Option ℤ) (back : List ℤ) (end behind with all : List ℕ) → behind ≡ behind_each 44 back ++ end
    → with ≡ field o ++ behind → all ≡ behind_each 44 front ++ with → all ≡ fields (map Some front ++ (o ∷ map Some back)) ++ end
around_one front o back end behind with all put-back put-one put-front =
    let whole : fields (map Some front ++ (o ∷ map Some back)) ≡ behind_each 44 front ++ (field o ++ behind_each 44 back) =
    flat_map-append field (map Some front) (o ∷ map Some back) ∙ (λ j. fields_some front j ++ (field o ++ fields_some back j)) in
    put-front ∙ ap (λ (t : List ℕ). behind_each 44 front ++ t) (put-one ∙ ap (λ (t : List ℕ). field o ++ t) put-back ∙ sym (append_assoc (field o) (behind_each 44 back) end))
    ∙ sym (append_assoc (behind_each 44 front) (field o ++ behind_each 44 back) end)
    ∙ ap (λ (t : List ℕ). t ++ end) (sym whole)

-- texts, each before the next
abbrev pub before : List (List ℕ) → List ℕ → List ℕ
before [] end = end
before (m ∷ ms) end = m ++ before ms end

pub before_all : (ms : List (List ℕ)) (end : List ℕ) → before ms end ≡ flat_map (λ (m : List ℕ). m) ms ++ end
before_all [] end = refl
before_all (m ∷ ms) end = ap (λ (t : List ℕ). m ++ t) (before_all ms end) ∙ sym (append_assoc m (flat_map (λ (m : List ℕ). m) ms) end)

-- some entries of a list, one after another
pub entries : (xs : List ℤ) (a n : ℕ) → a + n ≤ length xs → take n (drop a xs) ≡ map (at xs) (range_with_len a n)
entries xs a zero low = refl
entries xs a (suc n) low =
    let next : suc a ≡ a + 1 = omega arith in
    ap (take (suc n)) (drop-cons xs a (pos 0) (omega (arith, low)))
    ∙ ap (λ (l : List ℤ). at xs a ∷ l) (ap (λ (m : ℕ). take n (drop m xs)) next ∙ entries xs (a + 1) n (omega (arith, low)))

module _ (a b c e : List ℕ) where
  -- three texts before another
  pub three : a ++ (b ++ (c ++ e)) ≡ (a ++ (b ++ c)) ++ e
  three = ap (λ (t : List ℕ). a ++ t) (sym (append_assoc b c e)) ∙ sym (append_assoc a (b ++ c) e)

pub four : (a b c d e : List ℕ) → a ++ (b ++ (c ++ (d ++ e))) ≡ (a ++ (b ++ (c ++ d))) ++ e
four a b c d e = ap (λ (t : List ℕ). a ++ t) (three b c d e) ∙ sym (append_assoc a (b ++ (c ++ d)) e)

-- a text was appended, if there was memory
pub appended : (result : Result ⊤ AllocError) (old new end whole : List ℕ) → new ≡ (if is_ok result then old ++ end else old) → end ≡ whole → OnOk result (new ≡ old ++ whole)
appended (Ok done) old new end whole is same = is ∙ ap (λ (t : List ℕ). old ++ t) same
appended (Err e) old new end whole is same = tt

-- four texts behind another
pub behind_four : (o a b c d : List ℕ) → (((o ++ a) ++ b) ++ c) ++ d ≡ o ++ (a ++ (b ++ (c ++ d)))
behind_four o a b c d = append_assoc ((o ++ a) ++ b) c d ∙ append_assoc (o ++ a) b (c ++ d) ∙ append_assoc o a (b ++ (c ++ d))
