-- Few bytes make few pieces.
use Rattle.std.proofs.Common.{◌≡◌, ℕ, ◌<◌, ◌≤◌, ◌+◌, List, [], ◌∷◌, length, Option, Bool, true, false, cond, nat_lt, refl, arith}
use Rattle.std.proofs.lemmas.Grind.{common_steps}
use Rattle.std.specs.List.{list_any}
use Rattle.edifact_text.specs.declared.service.Service.{Service}
use Rattle.edifact_text.specs.Pieces.{separates, releases, pieces_from, pieces, with_byte}
use Rattle.edifact_text.specs.Stages.{is_long, is_too_large}

-- At most `count` + 1 pieces; the first has at most `first` bytes, the others at most `most`.
abbrev AllShort : ℕ → List (List ℕ) → Type 0
AllShort most [] = Unit {0}
AllShort most (q ∷ qs) = (length q ≤ most) × AllShort most qs

abbrev Short : ℕ → ℕ → ℕ → List (List ℕ) → Type 0
Short first most count [] = ⊥
Short first most count (q ∷ qs) = (length q ≤ first) × AllShort most qs × (length qs ≤ count)

all_short : (n most count : ℕ) (ps : List (List ℕ)) → n ≤ most → Short n most count ps → AllShort most ps × (length ps ≤ count + 1)
all_short n most count [] h k = absurd k
all_short n most count (q ∷ qs) h k = ((omega arith, k.1), omega arith)

one_longer : (n most b : ℕ) (ps : List (List ℕ)) → Short n most n ps → Short (n + 1) most (n + 1) (with_byte b ps)
one_longer n most b [] k = absurd k
one_longer n most b (q ∷ qs) k = (omega arith, k.1, omega arith)

short_step : (n most b : ℕ) (x : Bool) (ps qs : List (List ℕ)) → n ≤ most → Short n most n ps → Short n most n qs →
    Short (n + 1) most (n + 1) (cond x ([] ∷ ps) (with_byte b qs))
short_step n most b true ps qs h k l = let a = all_short n most n ps h k in (omega arith, a.0, a.1)
short_step n most b false ps qs h k l = one_longer n most b qs l

short_pieces : (r : Option ℕ) (sep : ℕ) (held : Bool) (bytes : List ℕ) (n most : ℕ) → length bytes ≡ n → n ≤ most →
    Short n most n (pieces_from r sep held bytes)
short_pieces r sep held [] n most e h = (omega arith, tt, omega arith)
short_pieces r sep held (b ∷ bytes) n most e h =
    let m : length bytes + 1 ≡ n = omega arith in
    let k : length bytes ≤ most = omega arith in
    rw (← m) (short_step (length bytes) most b (separates r sep held b) (pieces_from r sep false bytes) (pieces_from r sep
    (releases r held b) bytes) k
    (short_pieces r sep false bytes (length bytes) most refl k) (short_pieces r sep (releases r held b) bytes (length bytes) most refl k))

not_over : (n : ℕ) → n ≤ 64 → nat_lt 64 n ≡ false
not_over n h = grind (arith, common_steps, h)

at_most : (r : Option ℕ) (sep : ℕ) (bytes : List ℕ) → length bytes ≤ 63 → nat_lt 64 (length (pieces r sep bytes)) ≡ false
at_most r sep bytes h =
    let a = all_short (length bytes) 63 (length bytes) (pieces r sep bytes) h (short_pieces r sep false bytes (length bytes) 63 refl h) in
    not_over (length (pieces r sep bytes)) (omega (arith, a.1, h))

none_long : (sv : Service) (qs : List (List ℕ)) → AllShort 63 qs → list_any (is_long sv) qs ≡ false
none_long sv [] h = refl
none_long sv (q ∷ qs) h = rw (at_most sv.release sv.component q h.0) (none_long sv qs h.1)

-- Under 64 bytes no segment is too large.
pub never_large : (sv : Service) (bytes : List ℕ) → length bytes < 64 → is_too_large sv bytes ≡ false
never_large sv bytes h =
    let k : length bytes ≤ 63 = omega arith in
    let a = all_short (length bytes) 63 (length bytes) (pieces sv.release sv.element bytes) k (short_pieces sv.release sv.element false bytes
    (length bytes) 63 refl k) in
    rw (at_most sv.release sv.element bytes k) (none_long sv (pieces sv.release sv.element bytes) a.0)
