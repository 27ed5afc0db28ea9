-- Three ordinary bytes and an element separator are a tag.
use Rattle.std.proofs.Common.{◌≡◌, ℕ, List, [], ◌∷◌, true, false, refl, ap, ◌∙◌, ◌==◌, ◌||◌, ◌≤◌, length, get_or, arith}
use Rattle.std.proofs.lemmas.Grind.{common_steps}
use Rattle.edifact_text.specs.declared.service.Service.{Service}
use Rattle.edifact_text.specs.Characters.{is_release}
use Rattle.edifact_text.specs.Pieces.{pieces, literal}
use Rattle.std.proofs.Common.{take, drop, map}
use Rattle.std.proofs.Common.{Some, nat_eq, ◌≢◌}
use Rattle.edifact_text.specs.Reading.{segment_of, element_of}
use Rattle.edifact_text.specs.Rows.{is_text}
use Rattle.edifact_text.proofs.RawLemmas.{at_byte}
use Rattle.edifact_text.specs.Spelling.{is_service}
use Rattle.edifact_text.specs.Stages.{part}
use Rattle.edifact_text.proofs.ServedLemmas.{or_off}

-- An ordinary byte neither releases nor separates.
record IsOrdinary (sv : Service) (b : ℕ) : Type 0 where
  release : is_release sv.release b ≡ false
  component : (b == sv.component) ≡ false
  element : (b == sv.element) ≡ false

ordinary : (sv : Service) (b : ℕ) → is_service sv b ≡ false → IsOrdinary sv b
ordinary sv b h =
    let t = or_off (is_release sv.release b || b == sv.component || b == sv.element) (b == sv.terminator) h in
    let e = or_off (is_release sv.release b || b == sv.component) (b == sv.element) t.0 in
    let c = or_off (is_release sv.release b) (b == sv.component) e.0 in
    record { release = c.0; component = c.1; element = e.1 }

tag_of : (sv : Service) (a b c d : ℕ) (rest : List ℕ) → IsOrdinary sv a → IsOrdinary sv b → IsOrdinary sv c → is_release sv.release d ≡ false →
    (d == sv.element) ≡ true → part sv (a ∷ b ∷ c ∷ d ∷ rest) 0 0 ≡ a ∷ b ∷ c ∷ []
unfolding part
tag_of sv a b c d rest x y z m n =
    let e : pieces sv.release sv.element (a ∷ b ∷ c ∷ d ∷ rest) ≡ (a ∷ b ∷ c ∷ []) ∷ pieces sv.release sv.element rest = rw (x.release, x.element, y.release, y.element, z.release, z.element, m, n) refl in
    let f : pieces sv.release sv.component (a ∷ b ∷ c ∷ []) ≡ (a ∷ b ∷ c ∷ []) ∷ [] = rw (x.release, x.component, y.release, y.component, z.release, z.component) refl in
    let g : literal sv.release (a ∷ b ∷ c ∷ []) ≡ a ∷ b ∷ c ∷ [] = rw (x.release, y.release, z.release) refl in
    ap (λ ps. literal sv.release (get_or (pieces sv.release sv.component (get_or ps 0 [])) 0 [])) e
    ∙ ap (λ ps. literal sv.release (get_or ps 0 [])) f ∙ g

parts_of : (sv : Service) (a b c d : ℕ) (rest : List ℕ) → IsOrdinary sv a → IsOrdinary sv b → IsOrdinary sv c → is_release sv.release d ≡ false →
    (d == sv.element) ≡ true → segment_of sv (a ∷ b ∷ c ∷ d ∷ rest) ≡ ((a ∷ b ∷ c ∷ []) ∷ []) ∷ segment_of sv rest
unfolding segment_of
parts_of sv a b c d rest x y z m n =
    let e : pieces sv.release sv.element (a ∷ b ∷ c ∷ d ∷ rest) ≡ (a ∷ b ∷ c ∷ []) ∷ pieces sv.release sv.element rest = rw (x.release, x.element, y.release, y.element, z.release, z.element, m, n) refl in
    let f : pieces sv.release sv.component (a ∷ b ∷ c ∷ []) ≡ (a ∷ b ∷ c ∷ []) ∷ [] = rw (x.release, x.component, y.release, y.component, z.release, z.component) refl in
    let g : literal sv.release (a ∷ b ∷ c ∷ []) ≡ a ∷ b ∷ c ∷ [] = rw (x.release, y.release, z.release) refl in
    ap (map (element_of sv)) e
    ∙ ap (λ ps. map (literal sv.release) ps ∷ map (element_of sv) (pieces sv.release sv.element rest)) f
    ∙ ap (λ ys. (ys ∷ []) ∷ map (element_of sv) (pieces sv.release sv.element rest)) g

pub tag_parts : (sv : Service) (bytes : List ℕ) → 4 ≤ length bytes → is_service sv (get_or bytes 0 0) ≡ false → is_service sv (get_or bytes 1 0) ≡ false →
    is_service sv (get_or bytes 2 0) ≡ false → is_release sv.release (get_or bytes 3 0) ≡ false → get_or bytes 3 0 ≡ sv.element →
    segment_of sv bytes ≡ (take 3 bytes ∷ []) ∷ segment_of sv (drop 4 bytes)
tag_parts sv [] l h k m n e = absurd (omega arith)
tag_parts sv (a ∷ []) l h k m n e = absurd (omega arith)
tag_parts sv (a ∷ b ∷ []) l h k m n e = absurd (omega arith)
tag_parts sv (a ∷ b ∷ c ∷ []) l h k m n e = absurd (omega arith)
tag_parts sv (a ∷ b ∷ c ∷ d ∷ rest) l h k m n e =
    parts_of sv a b c d rest (ordinary sv a h) (ordinary sv b k) (ordinary sv c m) n (grind (arith, common_steps, e))

-- Three bytes in front, one by one.
pub three_taken : (bytes : List ℕ) → 3 ≤ length bytes → take 3 bytes ≡ get_or bytes 0 0 ∷ get_or bytes 1 0 ∷ get_or bytes 2 0 ∷ []
three_taken [] h = absurd (omega arith)
three_taken (a ∷ []) h = absurd (omega arith)
three_taken (a ∷ b ∷ []) h = absurd (omega arith)
three_taken (a ∷ b ∷ c ∷ rest) h = refl

pub tag_part : (sv : Service) (bytes : List ℕ) → 4 ≤ length bytes → is_service sv (get_or bytes 0 0) ≡ false → is_service sv (get_or bytes 1 0) ≡ false →
    is_service sv (get_or bytes 2 0) ≡ false → is_release sv.release (get_or bytes 3 0) ≡ false → get_or bytes 3 0 ≡ sv.element →
    part sv bytes 0 0 ≡ get_or bytes 0 0 ∷ get_or bytes 1 0 ∷ get_or bytes 2 0 ∷ []
tag_part sv [] l h k m n e = absurd (omega arith)
tag_part sv (a ∷ []) l h k m n e = absurd (omega arith)
tag_part sv (a ∷ b ∷ []) l h k m n e = absurd (omega arith)
tag_part sv (a ∷ b ∷ c ∷ []) l h k m n e = absurd (omega arith)
tag_part sv (a ∷ b ∷ c ∷ d ∷ rest) l h k m n e =
    tag_of sv a b c d rest (ordinary sv a h) (ordinary sv b k) (ordinary sv c m) n (grind (arith, common_steps, e))

-- A first byte that is ordinary is the tag's first letter.
first_is : (sv : Service) (b : ℕ) (bs : List ℕ) → IsOrdinary sv b → part sv (b ∷ bs) 0 0 ≡ b ∷ part sv bs 0 0
unfolding part
first_is sv b bs x =
    let e : (b == sv.element || b == sv.component) ≡ false = rw (x.element, x.component) refl in
    at_byte sv.release (Some (record { element = sv.element; component = sv.component })) b bs x.release e

pub first_letter : (sv : Service) (bytes : List ℕ) → 1 ≤ length bytes → is_service sv (get_or bytes 0 0) ≡ false →
    part sv bytes 0 0 ≡ get_or bytes 0 0 ∷ part sv (drop 1 bytes) 0 0
first_letter sv [] l h = absurd (omega arith)
first_letter sv (b ∷ bs) l h = first_is sv b bs (ordinary sv b h)

-- Then the tag isn't empty, nor one with another first letter.
pub not_empty : (sv : Service) (bytes : List ℕ) → 1 ≤ length bytes → is_service sv (get_or bytes 0 0) ≡ false → false ≡ is_text (part sv bytes 0 0) []
unfolding is_text
not_empty sv bytes l h = rw (first_letter sv bytes l h) refl

pub not_tag : (sv : Service) (bytes : List ℕ) (a : ℕ) (more : List ℕ) → 1 ≤ length bytes → is_service sv (get_or bytes 0 0) ≡ false →
    get_or bytes 0 0 ≢ a → false ≡ is_text (part sv bytes 0 0) (a ∷ more)
unfolding is_text
not_tag sv bytes a more l h off =
    let e : nat_eq (get_or bytes 0 0) a ≡ false = grind (arith, common_steps, off) in
    rw (first_letter sv bytes l h, e) refl
