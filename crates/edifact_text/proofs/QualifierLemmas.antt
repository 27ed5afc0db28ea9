-- A component is compared with a text byte by byte.
use Rattle.std.proofs.Common.{◌≡◌, ◌≢◌, ◌⊎◌, inl, inr, ℕ, zero, suc, ◌+◌, add-one, ◌<◌, ◌≤◌, ◌-◌, List, [], ◌∷◌, ◌++◌, length, take, drop, get_or, Some, Bool, true, false, refl, sym, ap, arith, ◌∙◌, ◌==◌, ◌||◌}
use Rattle.std.proofs.lemmas.List.{take_all}
use Rattle.edifact_text.specs.declared.service.Service.{Service}
use Rattle.edifact_text.specs.Characters.{is_plain, is_release, serves}
use Rattle.edifact_text.specs.Views.{leading_literal}
use Rattle.edifact_text.proofs.FitLemmas.{plain_apart_of}
use Rattle.edifact_text.proofs.RawLemmas.{at_byte, front_byte}

-- A letter or digit is the literal's first byte.
pub plain_byte : (sv : Service) (b : ℕ) (bs : List ℕ) → serves sv ≡ true → is_plain b ≡ true → leading_literal sv (b ∷ bs) ≡ b ∷ leading_literal sv bs
plain_byte sv b bs fit h =
    let p = plain_apart_of sv b fit h in
    let e : (b == sv.element || b == sv.component) ≡ false = rw (p.1, p.2) refl in
    at_byte sv.release (Some (record { element = sv.element; component = sv.component })) b bs p.0 e

pub plain_front : (sv : Service) (bytes : List ℕ) (b : ℕ) → serves sv ≡ true → is_plain b ≡ true → 1 ≤ length bytes → get_or bytes 0 0 ≡ b →
    leading_literal sv bytes ≡ b ∷ leading_literal sv (take (length bytes - 1) (drop 1 bytes))
plain_front sv [] b fit h l e = absurd (omega arith)
plain_front sv (x ∷ xs) b fit h l e =
    let w : take (length (x ∷ xs) - 1) (drop 1 (x ∷ xs)) ≡ xs = take_all (length (x ∷ xs) - 1) xs (omega arith) in
    rw (w, e) (plain_byte sv b xs fit h)

by_ends : (sv : Service) (x : ℕ) (xs : List ℕ) (el comp : Bool) → (x == sv.element) ≡ el → (x == sv.component) ≡ comp → is_release sv.release x ≡ false →
    (leading_literal sv (x ∷ xs) ≡ []) ⊎ (leading_literal sv (x ∷ xs) ≡ x ∷ leading_literal sv xs)
by_ends sv x xs true comp e f h = inl (rw (h, e) refl)
by_ends sv x xs false true e f h = inl (rw (front_byte sv.release sv.element x xs h e, h, f) refl)
by_ends sv x xs false false e f h =
    let g : (x == sv.element || x == sv.component) ≡ false = rw (e, f) refl in
    inr (at_byte sv.release (Some (record { element = sv.element; component = sv.component })) x xs h g)

other_first : (x b : ℕ) (xs ys more : List ℕ) → (ys ≡ []) ⊎ (ys ≡ x ∷ xs) → x ≢ b → ys ≢ b ∷ more
other_first x b xs ys more (inl e) off s = cc
other_first x b xs ys more (inr e) off s =
    let t : x ∷ xs ≡ b ∷ more = sym e ∙ s in
    off (ap (λ zs. get_or zs 0 0) t)

-- Another byte in front that releases nothing isn't the literal's first one.
not_led : (sv : Service) (bytes : List ℕ) (b : ℕ) (more : List ℕ) → is_release sv.release (get_or bytes 0 0) ≡ false → get_or bytes 0 0 ≢ b →
    leading_literal sv bytes ≢ b ∷ more
not_led sv [] b more h off s = cc
not_led sv (x ∷ xs) b more h off s = other_first x b (leading_literal sv xs) _ more (by_ends sv x xs _ _ refl refl h) off s

not_text : (text : List ℕ) (i : ℕ) (xs ys : List ℕ) → i < length text → xs ≡ take i text ++ ys → ((more : List ℕ) → ys ≢ get_or text i 0 ∷ more) → xs ≢ text
not_text [] i xs ys h e off s = absurd (omega arith)
not_text (t ∷ ts) zero xs ys h e off s = off ts (sym e ∙ s)
not_text (t ∷ ts) (suc i) xs ys h e off s = not_text ts i (take i ts ++ ys) ys (omega arith) refl off (ap (drop 1) (sym e ∙ s))

-- Then the literal isn't the text.
pub other_text : (sv : Service) (bytes left text : List ℕ) (i : ℕ) → i < length text → leading_literal sv bytes ≡ take i text ++ leading_literal sv left →
    is_release sv.release (get_or left 0 0) ≡ false → get_or left 0 0 ≢ get_or text i 0 → leading_literal sv bytes ≢ text
other_text sv bytes left text i h e r off =
    not_text text i (leading_literal sv bytes) (leading_literal sv left) h e (λ more. not_led sv left (get_or text i 0) more r off)

pub short_text : (sv : Service) (bytes left text : List ℕ) (i : ℕ) → i < length text → leading_literal sv bytes ≡ take i text ++ leading_literal sv left →
    length left < 1 → leading_literal sv bytes ≢ text
short_text sv bytes [] text i h e l = not_text text i (leading_literal sv bytes) [] h e (λ more s. cc)
short_text sv bytes (x ∷ xs) text i h e l = absurd (omega arith)

pub one_further : (text : List ℕ) (i : ℕ) (ys : List ℕ) → i < length text → take i text ++ (get_or text i 0 ∷ ys) ≡ take (suc i) text ++ ys
one_further [] i ys h = absurd (omega arith)
one_further (t ∷ ts) zero ys h = refl
one_further (t ∷ ts) (suc i) ys h = ap (λ zs. t ∷ zs) (one_further ts i ys (omega arith))

-- One more byte is equal.
pub goes_on : (sv : Service) (bytes left text : List ℕ) (i : ℕ) → serves sv ≡ true → i < length text → is_plain (get_or text i 0) ≡ true →
    1 ≤ length left → get_or left 0 0 ≡ get_or text i 0 → leading_literal sv bytes ≡ take i text ++ leading_literal sv left →
    leading_literal sv bytes ≡ take (i + 1) text ++ leading_literal sv (take (length left - 1) (drop 1 left))
goes_on sv bytes left text i fit h plain some same e =
    let f = plain_front sv left (get_or text i 0) fit plain some same in
    rw add-one (e ∙ (ap (λ zs. take i text ++ zs) f ∙ one_further text i _ h))
