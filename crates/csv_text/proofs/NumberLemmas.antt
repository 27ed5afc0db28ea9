-- Spaces at the end of a text, and numbers written in digits.
use Rattle.std.proofs.Common.{◌≡◌, ℕ, ◌<◌, ◌≤◌, ◌^◌, ◌==◌, ◌≢◌, ◌&&◌, if◌then◌else◌, nat_le, length, Bool, true, false, pos, Option, None, Some, List, [], ◌∷◌, ◌++◌, refl, ap, sym, arith, lit<}
use Rattle.std.proofs.lemmas.Bool.{and_parts}
use Rattle.std.proofs.lemmas.Bool.Decides.{nat_tests}
use Rattle.std.proofs.Math.Nat.{pow-le-pow_right}
use Rattle.std.specs.Char.{is_ascii_digit}
use Rattle.std.specs.List.{list_all}
use Rattle.std.specs.Str.Parse.{digits_value}
use Rattle.csv_text.specs.Numbers.{before_spaces, unless_last_space, natural_in, number_in}

-- a space more at the end changes nothing
pub before_spaces-space : (xs : List ℕ) → before_spaces (xs ++ 32 ∷ []) ≡ before_spaces xs
before_spaces-space [] = refl
before_spaces-space (x ∷ xs) = ap (unless_last_space x) (before_spaces-space xs)

-- a text that ends with another byte stays
pub before_spaces-other : (xs : List ℕ) (c : ℕ) → (c == 32) ≡ false → before_spaces (xs ++ c ∷ []) ≡ xs ++ c ∷ []
before_spaces-other [] c e = rw e refl
before_spaces-other (x ∷ []) c e = rw e refl
before_spaces-other (x ∷ y ∷ xs) c e = ap (unless_last_space x) (before_spaces-other (y ∷ xs) c e)

-- a text that is a front and a last byte: the last is a space, or another
pub before_spaces-front : (xs front : List ℕ) (last : ℕ) → xs ≡ front ++ last ∷ [] → last ≡ 32 → before_spaces xs ≡ before_spaces front
before_spaces-front xs front last e f = rw (e, f) (before_spaces-space front)

pub before_spaces-keep : (xs front : List ℕ) (last : ℕ) → xs ≡ front ++ last ∷ [] → last ≢ 32 → xs ≡ before_spaces xs
before_spaces-keep xs front last e f = rw e (sym (before_spaces-other front last (grind (arith, nat_tests))))

-- a power of ten below the most that 17 digits write
pub few_digits : (i n : ℕ) → i ≤ 17 → n < 10 ^ i → n < 10 ^ 17
few_digits i n h small = let p = pow-le-pow_right {n = 10} (lit< tt) h in omega (arith, p)

pub most_digits : (i n : ℕ) → i ≤ 18 → n < 10 ^ i → n < 10 ^ 18
most_digits i n h small = let p = pow-le-pow_right {n = 10} (lit< tt) h in omega (arith, p)

-- digits end with no space
digits-kept : (cs : List ℕ) → list_all is_ascii_digit cs ≡ true → before_spaces cs ≡ cs
digits-kept [] h = refl
digits-kept (c ∷ []) h =
    let other : (c == 32) ≡ false = grind (arith, nat_tests, h) in
    rw other refl
digits-kept (c ∷ d ∷ ds) h =
    let parts = and_parts (is_ascii_digit c) (list_all is_ascii_digit (d ∷ ds)) h in
    ap (unless_last_space c) (digits-kept (d ∷ ds) parts.1)

-- a test that was passed
chosen : (t : Bool) (v n : ℕ) → ◌≡◌ {A = Option ℕ} (if t then Some v else None) (Some n) → t ≡ true
chosen true v n e = refl
chosen false v n e = cc e

-- a text of digits alone is its number
pub natural-number : (text : List ℕ) (n : ℕ) → natural_in 18 text ≡ Some n → number_in text ≡ Some (pos n)
natural-number [] n e = cc e
natural-number (c ∷ cs) n e =
    let test = chosen _ (digits_value 10 (c ∷ cs)) n e in
    let all = (and_parts (nat_le 1 (length (c ∷ cs)) && nat_le (length (c ∷ cs)) 18) (list_all is_ascii_digit (c ∷ cs)) test).1 in
    let parts = and_parts (is_ascii_digit c) (list_all is_ascii_digit cs) all in
    let first = parts.0 in
    let space : (c == 32) ≡ false = grind (arith, nat_tests, first) in
    let minus : (c == 45) ≡ false = grind (arith, nat_tests, first) in
    let kept : before_spaces (c ∷ cs) ≡ c ∷ cs = digits-kept (c ∷ cs) all in
    rw (space, kept, minus, e) refl
