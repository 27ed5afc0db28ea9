-- Ordinary segments are passed over on the way to the message trailer.
use Rattle.std.proofs.Common.{◌≡◌, ◌≢◌, ℕ, not, nat_eq, take, drop, ◌+◌, ◌<◌, ◌≤◌, List, [], ◌∷◌, length, Bool, true, false, ◌&&◌, get_or, refl, sym, arith, ap, ◌∙◌}
use Rattle.std.proofs.lemmas.Grind.{common_steps}
use Rattle.edifact_text.specs.declared.service.Service.{Service}
use Rattle.edifact_text.specs.Characters.{serves}
use Rattle.edifact_text.specs.Reading.{Stretch, segment_of}
use Rattle.edifact_text.specs.Stages.{trailer_of, IsOrdinary}
use Rattle.edifact_text.specs.Views.{begins_ordinary, is_capital}
use Rattle.edifact_text.proofs.FitLemmas.{capital_ordinary, ends_apart}
use Rattle.edifact_text.proofs.ShortLemmas.{never_large}
use Rattle.edifact_text.proofs.TagLemmas.{not_empty, not_tag, tag_parts}
use Rattle.edifact_text.proofs.Steps.{Goes}

and_on : (a b : Bool) → (a && b) ≡ true → (a ≡ true) × (b ≡ true)
and_on true b h = (refl, h)
and_on false b h = cc

-- A short segment with a capital letter in front that is no U.
pub ordinary : (sv : Service) (place : ℕ) (bytes : List ℕ) → serves sv ≡ true → length bytes < 64 → 1 ≤ length bytes →
    is_capital (get_or bytes 0 0) ≡ true → not (nat_eq (get_or bytes 0 0) 85) ≡ true → IsOrdinary sv (record { place = place; bytes = bytes })
ordinary sv place bytes fit short some letter off_u =
    let other : get_or bytes 0 0 ≢ 85 = grind (arith, common_steps, off_u) in
    let off = capital_ordinary sv (get_or bytes 0 0) fit letter in
    let e = not_empty sv bytes some off in
    let t = not_tag sv bytes 85 (78 ∷ 84 ∷ []) some off other in
    let z = not_tag sv bytes 85 (78 ∷ 90 ∷ []) some off other in
    (rw (← e, never_large sv bytes short) refl, sym t, sym z)

-- The same of a segment without the blanks before it.
pub ordinary_begun : (sv : Service) (place : ℕ) (bytes : List ℕ) → serves sv ≡ true → length bytes < 64 → begins_ordinary bytes ≡ true →
    IsOrdinary sv (record { place = place; bytes = bytes })
ordinary_begun sv place [] fit short begun = cc
ordinary_begun sv place (b ∷ bs) fit short begun =
    let both = and_on (is_capital b) (not (nat_eq b 85)) begun in
    ordinary sv place (b ∷ bs) fit short (omega arith) both.0 both.1

passed_there : (sv : Service) (len n : ℕ) (s : Stretch) (qs : List Stretch) → 0 < length qs → IsOrdinary sv s →
    trailer_of sv len n (s ∷ qs) ≡ trailer_of sv len (n + 1) qs
passed_there sv len n s [] h o = absurd (omega arith)
passed_there sv len n s (q ∷ qs) h o = rw (o.0, o.1, o.2) refl

pub passed : (sv : Service) (len n : ℕ) (ps : List Stretch) (s : Stretch) (qs : List Stretch) → Goes ps s qs → IsOrdinary sv s →
    trailer_of sv len n ps ≡ trailer_of sv len (n + 1) qs
passed sv len n ps s qs g o = ap (trailer_of sv len n) g.0 ∙ passed_there sv len n s qs g.1 o

-- Three capital letters and an element separator in front are a tag.
pub capital_parts : (sv : Service) (bytes : List ℕ) → serves sv ≡ true → 4 ≤ length bytes → true ≡ is_capital (get_or bytes 0 0) →
    true ≡ is_capital (get_or bytes 1 0) → true ≡ is_capital (get_or bytes 2 0) → get_or bytes 3 0 ≡ sv.element →
    segment_of sv bytes ≡ (take 3 bytes ∷ []) ∷ segment_of sv (drop 4 bytes)
capital_parts sv bytes fit long a b c e =
    tag_parts sv bytes long (capital_ordinary sv _ fit (sym a)) (capital_ordinary sv _ fit (sym b)) (capital_ordinary sv _ fit (sym c))
    (rw e (ends_apart sv fit).1) e
