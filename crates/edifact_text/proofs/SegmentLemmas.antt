-- A segment of the text, as it is spelt and as it is read.
use Rattle.std.proofs.Common.{◌≡◌, ℕ, ◌+◌, ◌-◌, List, [], ◌∷◌, ◌++◌, length, Option, Bool, true, false, cond, refl, arith, sym, ap, ◌∙◌, subst, length-append}
use Rattle.std.specs.List.{list_all}
use Rattle.edifact_text.specs.declared.service.Service.{Service}
use Rattle.edifact_text.specs.Interchange.{Placed}
use Rattle.edifact_text.specs.Characters.{is_release, is_blank}
use Rattle.edifact_text.specs.Spelling.{Segment, Segments, AreBlanks, begins_blank}
use Rattle.edifact_text.specs.Pieces.{releases, separates, pieces_from, pieces, with_byte}
use Rattle.edifact_text.specs.Reading.{trimmed, stretches, segment_of}
use Rattle.edifact_text.proofs.ReadingLemmas.{is_clear, all_but, ended_clear, segment_reads, separator_is, and_true}
use Rattle.edifact_text.proofs.SpellingLemmas.{Calm, calm_nil, calm_byte, calm_append, piece_of, segment_calm, segment_means}
use Rattle.edifact_text.proofs.ServedLemmas.{Served}

-- What stands behind the first piece's separator.
pub record Behind (r : Option ℕ) (sep : ℕ) (bytes q s : List ℕ) (more : List (List ℕ)) : Type 0 where
  pub rest : List ℕ
  pub bytes_are : bytes ≡ q ++ sep ∷ rest
  pub pieces_are : pieces r sep rest ≡ s ∷ more

behind_byte : (r : Option ℕ) (sep b : ℕ) (bytes q s : List ℕ) (qs more : List (List ℕ)) → with_byte b qs ≡ q ∷ s ∷ more →
    ((p : List ℕ) → qs ≡ p ∷ s ∷ more → Behind r sep bytes p s more) → Behind r sep (b ∷ bytes) q s more
behind_byte r sep b bytes q s [] more h again = cc
behind_byte r sep b bytes q s (p ∷ ps) more h again =
    let d : b ∷ p ≡ q = cc in
    let t : p ∷ ps ≡ p ∷ s ∷ more = cc in
    let k = again p t in
    record { rest = k.rest; bytes_are = ap (λ zs. b ∷ zs) k.bytes_are ∙ ap (λ zs. zs ++ sep ∷ k.rest) d; pieces_are = k.pieces_are }

behind_step : (r : Option ℕ) (sep b : ℕ) (bytes q s : List ℕ) (x : Bool) (qs more : List (List ℕ)) → (x ≡ true → b ≡ sep) →
    cond x ([] ∷ pieces r sep bytes) (with_byte b qs) ≡ q ∷ s ∷ more →
    ((p : List ℕ) → qs ≡ p ∷ s ∷ more → Behind r sep bytes p s more) → Behind r sep (b ∷ bytes) q s more
behind_step r sep b bytes q s true qs more is_sep h again =
    let e : [] ≡ q = cc in
    let f : pieces r sep bytes ≡ s ∷ more = cc in
    record { rest = bytes; bytes_are = ap (λ c. c ∷ bytes) (is_sep refl) ∙ ap (λ zs. zs ++ sep ∷ bytes) e; pieces_are = f }
behind_step r sep b bytes q s false qs more is_sep h again = behind_byte r sep b bytes q s qs more h again

pub behind : (r : Option ℕ) (sep : ℕ) (held : Bool) (bytes q s : List ℕ) (more : List (List ℕ)) → pieces_from r sep held bytes ≡ q ∷ s ∷ more →
    Behind r sep bytes q s more
behind r sep held [] q s more h = cc
behind r sep held (b ∷ bytes) q s more h =
    behind_step r sep b bytes q s (separates r sep held b) (pieces_from r sep (releases r held b) bytes) more (separator_is r sep held b) h
    (λ p e. behind r sep (releases r held b) bytes p s more e)

-- The blanks before a piece, and what is behind them.
pub record Trimming (bytes : List ℕ) : Type 0 where
  pub blanks : List ℕ
  pub are_blanks : AreBlanks blanks
  pub bytes_are : bytes ≡ blanks ++ trimmed bytes
  pub no_blank : begins_blank (trimmed bytes) ≡ false

trim_step : (b : ℕ) (bytes : List ℕ) (x : Bool) → is_blank b ≡ x → Trimming bytes →
    (blanks : List ℕ) × (AreBlanks blanks) × (b ∷ bytes ≡ blanks ++ cond x (trimmed bytes) (b ∷ bytes)) × (begins_blank (cond x (trimmed bytes)
    (b ∷ bytes)) ≡ false)
trim_step b bytes true e t = (b ∷ t.blanks, rw e t.are_blanks, ap (λ zs. b ∷ zs) t.bytes_are, t.no_blank)
trim_step b bytes false e t = ([], refl, refl, e)

pub trimming : (bytes : List ℕ) → Trimming bytes
trimming [] = record { blanks = []; are_blanks = refl; bytes_are = refl; no_blank = refl }
trimming (b ∷ bytes) =
    let t = trim_step b bytes (is_blank b) refl (trimming bytes) in
    record { blanks = t.0; are_blanks = t.1; bytes_are = t.2; no_blank = t.3 }

trimmed_same : (text : List ℕ) → begins_blank text ≡ false → trimmed text ≡ text
trimmed_same [] h = refl
trimmed_same (b ∷ bytes) h = rw h refl

pub trimmed_blanks : (blanks text : List ℕ) → AreBlanks blanks → begins_blank text ≡ false → trimmed (blanks ++ text) ≡ text
trimmed_blanks [] text h k = trimmed_same text k
trimmed_blanks (b ∷ blanks) text h k = let e = and_true (is_blank b) (list_all is_blank blanks) h in rw e.0 (trimmed_blanks blanks text e.1 k)

clear_step : (r : Option ℕ) (p : ℕ → Bool) (b : ℕ) (bytes : List ℕ) (x : Bool) → is_blank b ≡ x → (is_blank b ≡ true → is_release r b ≡ false) →
    is_clear r p false (b ∷ bytes) ≡ true →
    (is_clear r p false bytes ≡ true → is_clear r p false (trimmed bytes) ≡ true) → is_clear r p false (cond x (trimmed bytes) (b ∷ bytes)) ≡ true
clear_step r p b bytes true e off h again = again (and_true (p b) (is_clear r p false bytes) (rw (off e) at h)).1
clear_step r p b bytes false e off h again = h

trimmed_clear : (r : Option ℕ) (p : ℕ → Bool) → ((b : ℕ) → is_blank b ≡ true → is_release r b ≡ false) → (bytes : List ℕ) →
    is_clear r p false bytes ≡ true → is_clear r p false (trimmed bytes) ≡ true
trimmed_clear r p off [] h = h
trimmed_clear r p off (b ∷ bytes) h = clear_step r p b bytes (is_blank b) refl (off b) h (trimmed_clear r p off bytes)

pub blanks_calm : (sv : Service) → Served sv → (blanks : List ℕ) → AreBlanks blanks → Calm sv.release sv.terminator blanks
blanks_calm sv v [] h = calm_nil sv.release sv.terminator
blanks_calm sv v (b ∷ blanks) h =
    let e = and_true (is_blank b) (list_all is_blank blanks) h in
    calm_append sv.release sv.terminator (b ∷ []) blanks (calm_byte sv.release sv.terminator b (v.release b e.0) (v.terminator b e.0))
    (blanks_calm sv v blanks e.1)

-- One run of segments behind another.
pub segments_append : (sv : Service) (at : ℕ) (xs : List Placed) (bytes : List ℕ) (mid : ℕ) (between : List ℕ) (ys : List Placed) (end : ℕ)
    (rest : List ℕ) →
    Segments sv at xs bytes mid between → Segments sv mid ys between end rest → Segments sv at (xs ++ ys) bytes end rest
segments_append sv at [] bytes mid between ys end rest h k =
    subst (λ n. Segments sv n ys bytes end rest) (sym h.0) (subst (λ zs. Segments sv mid ys zs end rest) (sym h.1) k)
segments_append sv at (x ∷ xs) bytes mid between ys end rest h k =
    (h.0, h.1, h.2, h.3, h.4, h.5, h.6, h.7, segments_append sv (at + length h.0 + length h.1 + 1) xs h.2 mid between ys end rest h.8 k)

-- A piece with another behind it is a segment of the text.
pub record OneRead (sv : Service) (at : ℕ) (bytes q s : List ℕ) (more : List (List ℕ)) : Type 0 where
  pub rest : List ℕ
  pub bytes_are : bytes ≡ q ++ sv.terminator ∷ rest
  pub pieces_are : pieces sv.release sv.terminator rest ≡ s ∷ more
  pub spelt : Segments sv at (record { place = at + (length q - length (trimmed q)); parts = segment_of sv (trimmed q) } ∷ []) bytes
      (at + length q + 1) rest

pub one_read : (sv : Service) → Served sv → (at : ℕ) (bytes q s : List ℕ) (more : List (List ℕ)) →
    pieces sv.release sv.terminator bytes ≡ q ∷ s ∷ more → OneRead sv at bytes q s more
one_read sv v at bytes q s more h =
    let b = behind sv.release sv.terminator false bytes q s more h in
    let t = trimming q in
    let long : length q ≡ length t.blanks + length (trimmed q) = ap length t.bytes_are ∙ length-append t.blanks (trimmed q) in
    let clear = trimmed_clear sv.release (all_but sv.terminator) v.release q (ended_clear sv.release sv.terminator false bytes q s more h) in
    let place : at + (length q - length (trimmed q)) ≡ at + length t.blanks = omega (arith, long) in
    let next : at + length t.blanks + length (trimmed q) + 1 ≡ at + length q + 1 = omega (arith, long) in
    record {
      rest = b.rest;
      bytes_are = b.bytes_are;
      pieces_are = b.pieces_are;
      spelt = (
        t.blanks,
        trimmed q,
        b.rest,
        b.bytes_are ∙ ap
            (λ zs. zs ++ sv.terminator ∷ b.rest) t.bytes_are,
        t.are_blanks,
        t.no_blank,
        segment_reads sv (trimmed q) clear,
        place,
        (next, refl),
      );
    }

-- A segment of the text is its first piece.
pub record FirstRead (sv : Service) (at : ℕ) (s : Placed) (bytes : List ℕ) (next : ℕ) (behind : List ℕ) : Type 0 where
  pub text : List ℕ
  pub parts_are : segment_of sv text ≡ s.parts
  pub read : stretches at (pieces sv.release sv.terminator bytes) ≡ record { place = s.place; bytes = text } ∷ stretches next
      (pieces sv.release sv.terminator behind)
  pub piece : List ℕ
  pub first : pieces sv.release sv.terminator bytes ≡ piece ∷ pieces sv.release sv.terminator behind

stretched : (at place next : ℕ) (q text : List ℕ) (ps qs : List (List ℕ)) → ps ≡ q ∷ qs → trimmed q ≡ text → at + (length q - length text) ≡ place →
    at + length q + 1 ≡ next →
    stretches at ps ≡ record { place = place; bytes = text } ∷ stretches next qs
stretched at place next q text ps qs h t p n = rw (h, t, p, n) refl

pub first_read : (sv : Service) → Served sv → (at : ℕ) (s : Placed) (bytes blanks text behind : List ℕ) →
    bytes ≡ blanks ++ text ++ sv.terminator ∷ behind →
    AreBlanks blanks → begins_blank text ≡ false → Segment sv s.parts text → s.place ≡ at + length blanks → FirstRead sv at s bytes
    (at + length blanks + length text + 1) behind
first_read sv v at s bytes blanks text behind e b n h p =
    let calm = calm_append sv.release sv.terminator blanks text (blanks_calm sv v blanks b) (segment_calm sv v.apart s.parts text h) in
    let first = ap (pieces sv.release sv.terminator) e ∙ piece_of sv.release sv.terminator (blanks ++ text) behind calm v.apart.terminator in
    let long : length (blanks ++ text) ≡ length blanks + length text = length-append blanks text in
    let place : at + (length (blanks ++ text) - length text) ≡ s.place = omega (arith, long, p) in
    let next : at + length (blanks ++ text) + 1 ≡ at + length blanks + length text + 1 = omega (arith, long) in
    record {
      text = text;
      parts_are = segment_means sv v.apart s.parts text h;
      read = stretched at s.place (at + length blanks + length text + 1) (blanks ++ text) text (pieces sv.release sv.terminator bytes)
          (pieces sv.release sv.terminator behind) first (trimmed_blanks blanks text b n) place next;
      piece = blanks ++ text;
      first = first;
    }
