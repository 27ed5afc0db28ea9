-- Components that are read where they stand.
use Rattle.std.proofs.Common.{◌≡◌, ℕ, zero, suc, ◌+◌, ◌-◌, ◌*◌, ◌<◌, ◌≤◌, ◌^◌, List, [], ◌∷◌, ◌++◌, length, take, drop, get_or, Option, Some, None, Bool, true, false, not, refl, sym, ap, ◌∙◌, ◌==◌, ◌||◌, arith}
use Rattle.std.proofs.lemmas.Grind.{common_steps}
use Rattle.std.proofs.lemmas.Bool.Decides.{nat_tests}
use Rattle.std.proofs.Math.Nat.{pow-succ'}
use Rattle.std.proofs.Common.{drop-cons, add-one, nat_le}
use Rattle.std.proofs.lemmas.List.{take_all, length-append, length-drop, length-take-le}
use Rattle.std.proofs.lemmas.Simd.{run_in_chunk_fails}
use Rattle.std.specs.List.{prefix_len}
use Rattle.edifact_text.specs.declared.service.Service.{Service}
use Rattle.edifact_text.specs.Characters.{is_plain, is_release, serves}
use Rattle.edifact_text.specs.Rows.{count_of, is_digit, number_from}
use Rattle.edifact_text.specs.Views.{is_capital, leading_component, leading_literal}
use Rattle.edifact_text.specs.Pieces.{literal}
use Rattle.edifact_text.proofs.FitLemmas.{plain_apart_of, capital_plain, ends_apart, parted}
use Rattle.edifact_text.proofs.RawLemmas.{at_byte, leading_second, leading_ends}
use Rattle.edifact_text.proofs.QualifierLemmas.{plain_byte, one_further}

digit_in : (d c l r n t : Bool) → d ≡ true → (d || c || l || r || n || t) ≡ true
digit_in true c l r n t h = refl
digit_in false c l r n t h = cc

pub digit_plain : (b : ℕ) → is_digit b ≡ true → is_plain b ≡ true
digit_plain b h = digit_in _ _ _ _ _ _ h

-- A digit is the literal's first byte.
digit_byte : (sv : Service) (b : ℕ) (bs : List ℕ) → serves sv ≡ true → true ≡ is_digit b → leading_literal sv (b ∷ bs) ≡ b ∷ leading_literal sv bs
digit_byte sv b bs fit h = plain_byte sv b bs fit (digit_plain b (sym h))

pub seven_digits : (sv : Service) (bytes : List ℕ) → serves sv ≡ true → 7 ≤ length bytes →
    true ≡ is_digit (get_or bytes 0 0) → true ≡ is_digit (get_or bytes 1 0) → true ≡ is_digit (get_or bytes 2 0) → true ≡ is_digit (get_or bytes 3 0) →
    true ≡ is_digit (get_or bytes 4 0) → true ≡ is_digit (get_or bytes 5 0) → true ≡ is_digit (get_or bytes 6 0) →
    leading_literal sv (take (length bytes - 7) (drop 7 bytes)) ≡ [] → leading_literal sv bytes ≡ take 7 bytes
seven_digits sv (a ∷ b ∷ c ∷ d ∷ e ∷ f ∷ g ∷ rest) fit l ha hb hc hd he hf hg ends =
    let w : take (length (a ∷ b ∷ c ∷ d ∷ e ∷ f ∷ g ∷ rest) - 7) rest ≡ rest = take_all (length (a ∷ b ∷ c ∷ d ∷ e ∷ f ∷ g ∷ rest) - 7) rest (omega arith) in
    let last : leading_literal sv rest ≡ [] = ap (leading_literal sv) (sym w) ∙ ends in
    digit_byte sv a (b ∷ c ∷ d ∷ e ∷ f ∷ g ∷ rest) fit ha
    ∙ ap (λ xs. a ∷ xs) (digit_byte sv b (c ∷ d ∷ e ∷ f ∷ g ∷ rest) fit hb
    ∙ ap (λ xs. b ∷ xs) (digit_byte sv c (d ∷ e ∷ f ∷ g ∷ rest) fit hc
    ∙ ap (λ xs. c ∷ xs) (digit_byte sv d (e ∷ f ∷ g ∷ rest) fit hd
    ∙ ap (λ xs. d ∷ xs) (digit_byte sv e (f ∷ g ∷ rest) fit he
    ∙ ap (λ xs. e ∷ xs) (digit_byte sv f (g ∷ rest) fit hf
    ∙ ap (λ xs. f ∷ xs) (digit_byte sv g rest fit hg
    ∙ ap (λ xs. g ∷ xs) last))))))
seven_digits sv [] fit l ha hb hc hd he hf hg ends = absurd (omega arith)
seven_digits sv (a ∷ []) fit l ha hb hc hd he hf hg ends = absurd (omega arith)
seven_digits sv (a ∷ b ∷ []) fit l ha hb hc hd he hf hg ends = absurd (omega arith)
seven_digits sv (a ∷ b ∷ c ∷ []) fit l ha hb hc hd he hf hg ends = absurd (omega arith)
seven_digits sv (a ∷ b ∷ c ∷ d ∷ []) fit l ha hb hc hd he hf hg ends = absurd (omega arith)
seven_digits sv (a ∷ b ∷ c ∷ d ∷ e ∷ []) fit l ha hb hc hd he hf hg ends = absurd (omega arith)
seven_digits sv (a ∷ b ∷ c ∷ d ∷ e ∷ f ∷ []) fit l ha hb hc hd he hf hg ends = absurd (omega arith)

-- Bytes that neither end nor release are the literal's first ones.
pub inner_bytes : (sv : Service) (n : ℕ) (bytes : List ℕ) → n ≤ length bytes →
    ((k : ℕ) → k < n → (is_release sv.release (get_or bytes k 0) ≡ false) × ((get_or bytes k 0 == sv.element) ≡ false) × ((get_or bytes k 0 == sv.component) ≡ false)) →
    leading_literal sv (drop n bytes) ≡ [] → leading_literal sv bytes ≡ take n bytes
inner_bytes sv zero bytes h quiet ends = ends
inner_bytes sv (suc n) [] h quiet ends = absurd (omega arith)
inner_bytes sv (suc n) (b ∷ bs) h quiet ends =
    let first = quiet 0 (omega arith) in
    let e : (b == sv.element || b == sv.component) ≡ false = rw (first.1, first.2) refl in
    at_byte sv.release (Some (record { element = sv.element; component = sv.component })) b bs first.0 e
    ∙ ap (λ xs. b ∷ xs) (inner_bytes sv n bs (omega arith) (λ k less. quiet (suc k) (omega arith)) ends)

-- What stands beside the separators in the search.
abbrev pub other_of : Option ℕ → ℕ → ℕ
other_of None sep = sep
other_of (Some r) sep = r

pub no_other : (r : Option ℕ) (sep b : ℕ) → (b == other_of r sep) ≡ false → is_release r b ≡ false
no_other None sep b h = refl
no_other (Some r) sep b h = h

pub eleven_bytes : (sv : Service) (other : ℕ) (bytes : List ℕ) → other ≡ other_of sv.release sv.component → 16 ≤ length bytes →
    11 ≤ prefix_len (λ b. not (b == sv.element)) (take 16 bytes) → 11 ≤ prefix_len (λ b. not (b == sv.component)) (take 16 bytes) →
    11 ≤ prefix_len (λ b. not (b == other)) (take 16 bytes) → leading_literal sv (take (length bytes - 11) (drop 11 bytes)) ≡ [] → leading_literal sv bytes ≡ take 11 bytes
eleven_bytes sv other bytes is room h k m ends =
    let w : take (length bytes - 11) (drop 11 bytes) ≡ drop 11 bytes = take_all (length bytes - 11) (drop 11 bytes) (omega (arith, length-drop {A = ℕ})) in
    inner_bytes sv 11 bytes (omega arith) (λ j less.
    let e : (get_or bytes j 0 == sv.element) ≡ false = run_in_chunk_fails (λ b. b == sv.element) bytes 0 16 _ 0 room refl j (omega arith) (omega (arith, h, less)) in
    let f : (get_or bytes j 0 == sv.component) ≡ false = run_in_chunk_fails (λ b. b == sv.component) bytes 0 16 _ 0 room refl j (omega arith) (omega (arith, k, less)) in
    let g : (get_or bytes j 0 == other) ≡ false = run_in_chunk_fails (λ b. b == other) bytes 0 16 _ 0 room refl j (omega arith) (omega (arith, m, less)) in
    (no_other sv.release sv.component (get_or bytes j 0) (rw is at g), e, f)) (rw w at ends)

-- One more digit.
pub digit_further : (sv : Service) (bytes : List ℕ) (at : ℕ) → serves sv ≡ true → at < length bytes → true ≡ is_digit (get_or bytes at 0) →
    leading_literal sv bytes ≡ take at bytes ++ leading_literal sv (drop at bytes) →
    leading_literal sv bytes ≡ take (at + 1) bytes ++ leading_literal sv (drop (at + 1) bytes)
digit_further sv bytes at fit less h e =
    let f : leading_literal sv (drop at bytes) ≡ get_or bytes at 0 ∷ leading_literal sv (drop (suc at) bytes) =
    rw (drop-cons bytes at 0) (digit_byte sv (get_or bytes at 0) (drop (suc at) bytes) fit h) in
    let all : leading_literal sv bytes ≡ take (suc at) bytes ++ leading_literal sv (drop (suc at) bytes) =
    e ∙ (ap (λ xs. take at bytes ++ xs) f ∙ one_further bytes at (leading_literal sv (drop (suc at) bytes)) less) in
    rw add-one all

pub number_further : (bytes : List ℕ) (at value digit : ℕ) → at < length bytes → true ≡ is_digit (get_or bytes at 0) → digit ≡ get_or bytes at 0 - 48 →
    ((rest : List ℕ) → number_from 0 (take at bytes ++ rest) ≡ number_from value rest) →
    (rest : List ℕ) → number_from 0 (take (at + 1) bytes ++ rest) ≡ number_from (10 * value + digit) rest
number_further bytes at value digit less h is so rest =
    let d : is_digit (get_or bytes at 0) ≡ true = sym h in
    let f : number_from value (get_or bytes at 0 ∷ rest) ≡ number_from (10 * value + (get_or bytes at 0 - 48)) rest = rw d refl in
    let all : number_from 0 (take (suc at) bytes ++ rest) ≡ number_from (10 * value + (get_or bytes at 0 - 48)) rest =
    sym (ap (number_from 0) (one_further bytes at rest less)) ∙ (so (get_or bytes at 0 ∷ rest) ∙ f) in
    rw (add-one, is) all

pub small_further : (at value digit byte : ℕ) → value < 10 ^ at → true ≡ is_digit byte → digit ≡ byte - 48 → 10 * value + digit < 10 ^ (at + 1)
small_further at value digit byte small h is =
    let low : byte ≤ 57 = grind (arith, nat_tests, h) in
    let e : 10 ^ (at + 1) ≡ 10 * 10 ^ at = rw (add-one, pow-succ' 10 at) refl in
    omega (arith, e)

count_some : (xs : List ℕ) (value : ℕ) → 1 ≤ length xs → length xs ≤ 10 → number_from 0 xs ≡ Some value → count_of xs ≡ Some value
count_some [] value some few e = absurd (omega arith)
count_some (x ∷ xs) value some few e =
    let h : nat_le (length xs) 9 ≡ true = grind (arith, common_steps, few) in
    rw h e

-- The digits end, and are a number.
pub count_ends : (sv : Service) (bytes : List ℕ) (at value : ℕ) → at ≤ length bytes → 1 ≤ at → at ≤ 10 →
    leading_literal sv bytes ≡ take at bytes ++ leading_literal sv (drop at bytes) → leading_literal sv (drop at bytes) ≡ [] →
    ((rest : List ℕ) → number_from 0 (take at bytes ++ rest) ≡ number_from value rest) → count_of (leading_literal sv bytes) ≡ Some value
count_ends sv bytes at value h some few e ends so =
    let f : leading_literal sv bytes ≡ take at bytes ++ [] = e ∙ ap (λ xs. take at bytes ++ xs) ends in
    let g : length (take at bytes ++ []) ≡ at = simp (length-append, length-take-le) (omega arith) in
    rw f (count_some (take at bytes ++ []) value (omega arith) (omega arith) (so []))

-- Three capital letters before a component separator.
capital_second : (sv : Service) (b : ℕ) (bs : List ℕ) → serves sv ≡ true → true ≡ is_capital b → leading_component sv 1 (b ∷ bs) ≡ leading_component sv 1 bs
capital_second sv b bs fit h = let p = plain_apart_of sv b fit (capital_plain b (sym h)) in leading_second sv b bs p.0 p.1 p.2

capital_byte : (sv : Service) (b : ℕ) (bs : List ℕ) → serves sv ≡ true → true ≡ is_capital b → leading_literal sv (b ∷ bs) ≡ b ∷ leading_literal sv bs
capital_byte sv b bs fit h = plain_byte sv b bs fit (capital_plain b (sym h))

separator_ends : (sv : Service) (b : ℕ) (bs : List ℕ) → serves sv ≡ true → b ≡ sv.component →
    (leading_literal sv (b ∷ bs) ≡ []) × (leading_component sv 1 (b ∷ bs) ≡ leading_component sv 0 bs)
separator_ends sv b bs fit is =
    let same : (b == sv.component) ≡ true = rw is (grind (arith, common_steps)) in
    let off : (b == sv.element) ≡ false = rw is ((parted sv fit).separators) in
    let quiet : is_release sv.release b ≡ false = rw is ((ends_apart sv fit).2) in
    let e = leading_ends sv b bs quiet off same in
    (ap (literal sv.release) e.0, e.1)

pub measure_parts : (sv : Service) (bytes : List ℕ) (u v w : ℕ) → serves sv ≡ true → 4 ≤ length bytes → get_or bytes 0 0 ≡ u → get_or bytes 1 0 ≡ v →
    get_or bytes 2 0 ≡ w → get_or bytes 3 0 ≡ sv.component → true ≡ is_capital u → true ≡ is_capital v → true ≡ is_capital w →
    (leading_literal sv bytes ≡ u ∷ v ∷ w ∷ [])
    × (literal sv.release (leading_component sv 1 bytes) ≡ leading_literal sv (take (length bytes - 4) (drop 4 bytes)))
measure_parts sv [] u v w fit l e f g d a b c = absurd (omega arith)
measure_parts sv (x ∷ []) u v w fit l e f g d a b c = absurd (omega arith)
measure_parts sv (x ∷ y ∷ []) u v w fit l e f g d a b c = absurd (omega arith)
measure_parts sv (x ∷ y ∷ z ∷ []) u v w fit l e f g d a b c = absurd (omega arith)
measure_parts sv (x ∷ y ∷ z ∷ s ∷ rest) u v w fit l e f g d a b c =
    let all : take (length (x ∷ y ∷ z ∷ s ∷ rest) - 4) rest ≡ rest = take_all (length (x ∷ y ∷ z ∷ s ∷ rest) - 4) rest (omega arith) in
    let x_is : true ≡ is_capital x = rw e a in
    let y_is : true ≡ is_capital y = rw f b in
    let z_is : true ≡ is_capital z = rw g c in
    let ends = separator_ends sv s rest fit d in (
      rw (← e, ← f, ← g) (capital_byte sv x (y ∷ z ∷ s ∷ rest) fit x_is
          ∙ ap (λ xs. x ∷ xs) (capital_byte sv y (z ∷ s ∷ rest) fit y_is
          ∙ ap (λ xs. y ∷ xs) (capital_byte sv z (s ∷ rest) fit z_is ∙ ap (λ xs. z ∷ xs) ends.0))),
      rw all (ap (literal sv.release) (capital_second sv x (y ∷ z ∷ s ∷ rest) fit x_is
          ∙ (capital_second sv y (z ∷ s ∷ rest) fit y_is ∙ (capital_second sv z (s ∷ rest) fit z_is ∙ ends.1)))),
    )
