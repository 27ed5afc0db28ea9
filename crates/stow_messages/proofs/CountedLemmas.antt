-- A mass of a few digits is the number that they write.
use Rattle.std.proofs.Common.{◌≡◌, ℕ, add-zero, ◌+◌, ◌-◌, ◌*◌, List, [], ◌∷◌, length, Some, None, Bool, true, false, refl, ap, ◌∙◌, nat_le, arith, if◌then◌else◌, codes}
use Rattle.std.proofs.lemmas.Bool.Decides.{nat_tests}
use Rattle.std.specs.Char.{digit_value}
use Rattle.std.specs.Str.Parse.{digits_value_after}
use Rattle.edifact_text.specs.Interchange.{Numbered, component}
use Rattle.edifact_text.specs.Rows.{count_of, is_digit, number_from}
use Rattle.stow_messages.specs.Entries.{kg_at, or_fault_at}
use Rattle.stow_messages.specs.declared.faults.StowCode.TheVariants.{BadWeight}
use Rattle.stow_messages.specs.Weights.{begins_with_digit, behind_digits, digits_of, in_six_digits, kg_in}

-- All of the text is digits, which write this number behind those of another one.
record IsWritten (value : ℕ) (text : List ℕ) (n : ℕ) : Type 0 where
  digits : digits_of text ≡ text
  behind : behind_digits text ≡ []
  number : digits_value_after 10 value text ≡ n

one_digit : (value b n : ℕ) (bs : List ℕ) → is_digit b ≡ true → IsWritten (10 * value + (b - 48)) bs n → IsWritten value (b ∷ bs) n
one_digit value b n bs h w =
    let same : value * 10 + digit_value b ≡ 10 * value + (b - 48) = grind (arith, nat_tests, h) in
    record {
      digits = rw h (ap (λ xs. b ∷ xs) w.digits);
      behind = rw h w.behind;
      number = rw same w.number;
    }

by_test : (d : Bool) (value b n : ℕ) (bs : List ℕ) → is_digit b ≡ d → number_from value (b ∷ bs) ≡ Some n →
    (number_from (10 * value + (b - 48)) bs ≡ Some n → IsWritten (10 * value + (b - 48)) bs n) → IsWritten value (b ∷ bs) n
by_test true value b n bs h e on = one_digit value b n bs h (on (rw h at e))
by_test false value b n bs h e on = let none = rw h at e in cc

written : (value n : ℕ) (text : List ℕ) → number_from value text ≡ Some n → IsWritten value text n
written value n [] e = record { digits = refl; behind = refl; number = cc }
written value n (b ∷ bs) e = by_test (is_digit b) value b n bs refl e (written (10 * value + (b - 48)) n bs)

mass_is : (mark n : ℕ) (text : List ℕ) → begins_with_digit text ≡ true → nat_le (length text) 35 ≡ true → IsWritten 0 text n → kg_in mark text ≡ in_six_digits n
mass_is mark n text begins few w =
    let e : digits_value_after 10 0 (digits_of text) ≡ n = ap (digits_value_after 10 0) w.digits ∙ w.number in
    rw (few, begins, w.behind, e, add-zero) refl

first_digit : (d : Bool) (value b n : ℕ) (bs : List ℕ) → is_digit b ≡ d → number_from value (b ∷ bs) ≡ Some n → begins_with_digit (b ∷ bs) ≡ true
first_digit true value b n bs h e = h
first_digit false value b n bs h e = let none = rw h at e in cc

by_length : (few : Bool) (mark b n : ℕ) (bs : List ℕ) → nat_le (length bs) 9 ≡ few → (if few then number_from 0 (b ∷ bs) else None) ≡ Some n →
    kg_in mark (b ∷ bs) ≡ in_six_digits n
by_length false mark b n bs is e = cc
by_length true mark b n bs is e =
    let few : nat_le (length (b ∷ bs)) 35 ≡ true = grind (arith, nat_tests, is) in
    mass_is mark n (b ∷ bs) (first_digit (is_digit b) 0 b n bs refl e) few (written 0 n (b ∷ bs) e)

pub counted_text : (mark n : ℕ) (text : List ℕ) → count_of text ≡ Some n → kg_in mark text ≡ in_six_digits n
counted_text mark n [] e = cc
counted_text mark n (b ∷ bs) e = by_length (nat_le (length bs) 9) mark b n bs refl e

pub counted : (mark n : ℕ) (s : Numbered) → component s.parts 3 0 ≡ codes "KGM" → count_of (component s.parts 3 1) ≡ Some n →
    kg_at mark s ≡ or_fault_at BadWeight s (in_six_digits n)
counted mark n s unit number =
    let e = counted_text mark n (component s.parts 3 1) number in
    rw (unit, e) refl
