-- Four digits, and the number that they end.
use Rattle.std.proofs.Common.{◌≡◌, ℕ, zero, suc, ◌+◌, ◌-◌, ◌/◌, ◌%◌, ◌^◌, ◌<◌, ◌≤◌, List, [], ◌∷◌, ◌++◌, drop, length, sym, ap, ◌∙◌, arith, append_assoc, lt_of_not-le}
use Rattle.std.proofs.lemmas.Fmt.{decimal_digit, decimal_nonempty, length-decimal-le}
use Rattle.std.proofs.lemmas.List.{drop-append-le, drop-drop}
use Rattle.std.specs.Fmt.{decimal}
use Rattle.std.specs.Prelude.{IsAscii, nat_lt}
use Rattle.std.proofs.lemmas.Bool.Decides.{nat_tests}
use mathlib.Core.Logic.{dite}
use native.Mathlib.Decide.{dec_le}
use mir.Val.{bool_byte}
use Rattle.itoa.proofs.Decimal.{pair, decimal_two, decimal_pair, decimal_four}
use Rattle.decimal_text.specs.Quads.{quad}

-- a number of four, three, two digits and one
pub text_four : (n : ℕ) → 1000 ≤ n → n < 10000 → quad n ≡ decimal n
text_four n low high = sym (decimal_pair n (omega arith) (omega arith) ∙ ap (λ d. d ++ pair (n % 100)) (decimal_two (n / 100) (omega arith) (omega arith)))

pub text_three : (n : ℕ) → 100 ≤ n → n < 1000 → (48 + n / 100 % 10) ∷ pair (n % 100) ≡ decimal n
text_three n low high =
    let e : n / 100 % 10 ≡ n / 100 = omega arith in
    (λ j. (48 + e j) ∷ pair (n % 100)) ∙ sym (decimal_pair n (omega arith) (omega arith) ∙ ap (λ d. d ++ pair (n % 100)) (decimal_digit (n / 100) (omega arith)))

pub text_two : (n : ℕ) → 10 ≤ n → n < 100 → pair (n % 100) ≡ decimal n
text_two n low high = let e : n % 100 ≡ n = omega arith in ap pair e ∙ sym (decimal_two n low high)

pub text_one : (n : ℕ) → n < 10 → (48 + n % 100 % 10) ∷ [] ≡ decimal n
text_one n high = let e : n % 100 % 10 ≡ n = omega arith in (λ j. (48 + e j) ∷ []) ∙ sym (decimal_digit n high)

-- how many of its four digits are zeros in front
abbrev pub zeros : ℕ → ℕ
zeros n = bool_byte (nat_lt n 1000) + bool_byte (nat_lt n 100) + bool_byte (nat_lt n 10)

pub so_many : (n z : ℕ) → zeros n ≡ z → drop z (quad n) ≡ decimal n → z + length (decimal n) ≡ 4
    → (drop (zeros n) (quad n) ≡ decimal n) × (zeros n + length (decimal n) ≡ 4)
so_many n z e text len = (ap (λ z. drop z (quad n)) e ∙ text, ap (λ z. z + length (decimal n)) e ∙ len)

pub behind_zeros : (n : ℕ) → n < 10000 → (drop (zeros n) (quad n) ≡ decimal n) × (zeros n + length (decimal n) ≡ 4)
behind_zeros n high =
    dite (dec_le 1000 n)
    (λ low. let text = text_four n low high in so_many n 0 (grind (arith, nat_tests)) text (omega (arith, ap length text)))
    (λ three. let three = lt_of_not-le three in dite (dec_le 100 n)
    (λ low. let text = text_three n low three in so_many n 1 (grind (arith, nat_tests)) text (omega (arith, ap length text)))
    (λ two. let two = lt_of_not-le two in dite (dec_le 10 n)
    (λ low. let text = text_two n low two in so_many n 2 (grind (arith, nat_tests)) text (omega (arith, ap length text)))
    (λ one. let one = lt_of_not-le one in let text = text_one n one in so_many n 3 (grind (arith, nat_tests)) text (omega (arith, ap length text)))))

-- where z zeros and the digits of n are four bytes, n has exactly z zeros in front
pub text_behind : (n z : ℕ) → n < 10000 → z + length (decimal n) ≡ 4 → drop z (quad n) ≡ decimal n
text_behind n z high all =
    let known = behind_zeros n high in
    let e : z ≡ zeros n = omega (arith, all, known.1) in
    ap (λ m. drop m (quad n)) e ∙ known.0

-- behind the zeros stands the number
pub after_zeros : (bytes rest : List ℕ) (n at zeros : ℕ) → drop at bytes ≡ quad n ++ rest → zeros ≤ 4 → drop zeros (quad n) ≡ decimal n
    → drop (at + zeros) bytes ≡ decimal n ++ rest
after_zeros bytes rest n at zeros written few text =
    sym (drop-drop zeros at bytes) ∙ ap (drop zeros) written ∙ drop-append-le zeros (quad n) rest few ∙ ap (λ d. d ++ rest) text

-- the last four digits of a longer number, behind the others
pub four_more : (n : ℕ) (rest : List ℕ) → 10000 ≤ n → n < 2 ^ 64 → decimal (n / 10000) ++ (quad (n % 10000) ++ rest) ≡ decimal n ++ rest
four_more n rest low high =
    sym (append_assoc (decimal (n / 10000)) (quad (n % 10000)) rest) ∙ ap (λ d. d ++ rest) (sym (decimal_four n low high))

-- A number has at most 20 digits, of which some fours are written and one at least is left: so there is room for four more.
pub room_left : (n left at end : ℕ) → n < 2 ^ 64 → left < 2 ^ 64 → 20 ≤ end → at ≤ end → (end - at) % 4 ≡ 0
    → at + length (decimal n) ≡ end + length (decimal left) → 4 ≤ at
room_left n left at end fits left_fits room below whole digits =
    let most = length-decimal-le 20 n (omega arith) (omega arith) fits in
    let least = decimal_nonempty left left_fits in
    omega (arith, most, least, digits, whole, room, below)

-- a byte and a text
pub ascii_before : (b : ℕ) (bs : List ℕ) → b < 128 → IsAscii bs → IsAscii (b ∷ bs)
ascii_before b bs h all zero = h
ascii_before b bs h all (suc i) = all i
