-- Quoted input, by its length.
use Rattle.std.proofs.Common.{◌≡◌, ◌∙◌, ℕ, zero, suc, ◌+◌, ◌≤◌, ◌<◌, List, [], ◌∷◌, ◌++◌, length, map, take, Bool, true, false, nat_le, if◌then◌else◌, codes, ap, refl, arith}
use Rattle.std.specs.List.{list_all}
use Rattle.std.proofs.lemmas.List.{length_push, map_push}
use Rattle.std.proofs.lemmas.List.Folds.{list_all-append}
use Rattle.plain_text.specs.Quotes.{is_seen, seen, quoted_text}

pub short_line : (bs : List ℕ) → length bs ≤ 58 → quoted_text bs ≡ map seen bs
short_line bs h = let fits : nat_le (length bs) 58 ≡ true = grind (arith, h) in rw fits refl

pub long_line : (bs : List ℕ) → 58 < length bs → quoted_text bs ≡ map seen (take 56 bs) ++ codes ".."
long_line bs h = let over : nat_le (length bs) 58 ≡ false = grind (arith, h) in rw over refl

pub short_ended : (bs : List ℕ) (e : ℕ) → length bs < 58 → quoted_text (bs ++ e ∷ []) ≡ map seen bs ++ seen e ∷ []
short_ended bs e h = short_line (bs ++ e ∷ []) (omega (arith, h, length_push bs e)) ∙ map_push seen bs e

take_front : (n : ℕ) (bs : List ℕ) (e : ℕ) → n ≤ length bs → take n (bs ++ e ∷ []) ≡ take n bs
take_front zero bs e h = refl
take_front (suc n) [] e h = absurd (omega arith)
take_front (suc n) (b ∷ bs) e h = ap (λ (t : List ℕ). b ∷ t) (take_front n bs e (omega arith))

pub long_ended : (bs : List ℕ) (e : ℕ) → 58 ≤ length bs → quoted_text (bs ++ e ∷ []) ≡ map seen (take 56 bs) ++ codes ".."
long_ended bs e h =
    long_line (bs ++ e ∷ []) (omega (arith, h, length_push bs e)) ∙ ap (λ (t : List ℕ). map seen t ++ codes "..") (take_front 56 bs e (omega (arith, h)))

-- what is quoted is seen, and no wider than that
seen_by : (b : ℕ) (t : Bool) → is_seen b ≡ t → is_seen (if t then b else 46) ≡ true
seen_by b true e = e
seen_by b false e = refl

all_seen : (bs : List ℕ) → list_all is_seen (map seen bs) ≡ true
all_seen [] = refl
all_seen (b ∷ bs) = rw (seen_by b (is_seen b) refl, all_seen bs) refl

abbrev quoted_by : List ℕ → Bool → List ℕ
quoted_by bs t = if t then map seen bs else map seen (take 56 bs) ++ codes ".."

seen_length : (bs : List ℕ) (t : Bool) → list_all is_seen (quoted_by bs t) ≡ true
seen_length bs true = all_seen bs
seen_length bs false = list_all-append is_seen (map seen (take 56 bs)) (codes "..") ∙ (rw (all_seen (take 56 bs)) refl)

pub quoted_seen : (bs : List ℕ) → list_all is_seen (quoted_text bs) ≡ true
quoted_seen bs = seen_length bs (nat_le (length bs) 58)

mapped_length : (bs : List ℕ) → length (map seen bs) ≡ length bs
mapped_length [] = refl
mapped_length (b ∷ bs) = omega (arith, mapped_length bs)

taken_length : (n : ℕ) (bs : List ℕ) → length (take n bs) ≤ n
taken_length zero bs = omega arith
taken_length (suc n) [] = omega arith
taken_length (suc n) (b ∷ bs) = omega (arith, taken_length n bs)

added_length : (xs ys : List ℕ) → length (xs ++ ys) ≡ length xs + length ys
added_length [] ys = omega arith
added_length (x ∷ xs) ys = omega (arith, added_length xs ys)

width_by : (bs : List ℕ) (t : Bool) → nat_le (length bs) 58 ≡ t → length (quoted_by bs t) ≤ 58
width_by bs true e = let few : length bs ≤ 58 = grind (arith, e) in omega (arith, few, mapped_length bs)
width_by bs false e =
    omega (arith, added_length (map seen (take 56 bs)) (codes ".."), mapped_length (take 56 bs), taken_length 56 bs)

pub quoted_width : (bs : List ℕ) → length (quoted_text bs) ≤ 58
quoted_width bs = width_by bs (nat_le (length bs) 58) refl
