-- What judging the segments answers is what the definitions say of the text.
use Rattle.std.proofs.Common.{◌≡◌, ◌≢◌, ℕ, ◌<◌, ◌+◌, ◌-◌, inl, inr, List, [], ◌∷◌, ◌++◌, length, Option, Some, None, Result, Ok, Err, Bool, true, false, nat_lt, ◌==◌, refl, arith, sym, ap, ◌∙◌, append_assoc, subst, length-append}
use Rattle.std.proofs.lemmas.List.{append-nil}
use Rattle.std.proofs.lemmas.Grind.{common_steps}
use Rattle.edifact_text.specs.declared.faults.EdiFault.{EdiFault}
use Rattle.edifact_text.specs.declared.faults.EdiCode.{EdiCode}
use Rattle.edifact_text.specs.declared.faults.EdiCode.TheVariants.{Truncated, Trailing}
use Rattle.edifact_text.specs.declared.faults.Kind.{Kind}
use Rattle.edifact_text.specs.declared.service.Service.{Service}
use Rattle.edifact_text.specs.Interchange.{Parts, Placed}
use Rattle.edifact_text.specs.Characters.{is_blank}
use Rattle.edifact_text.specs.Rows.{row_of, is_closed}
use Rattle.edifact_text.specs.Spelling.{Segments, AreBlanks, begins_blank}
use Rattle.edifact_text.specs.Faults.{parts_of, AreClean, AreFaulty}
use Rattle.edifact_text.specs.Pieces.{pieces}
use Rattle.edifact_text.specs.Reading.{row, fault, ◌>>=◌, trimmed, stretches, segment_of, as_result, judged}
use Rattle.edifact_text.proofs.PiecesLemmas.{some_piece}
use Rattle.edifact_text.proofs.ReadingLemmas.{only_piece}
use Rattle.edifact_text.proofs.ServedLemmas.{Served}
use Rattle.edifact_text.proofs.SegmentLemmas.{trimming, segments_append, one_read, first_read}
use Rattle.edifact_text.proofs.CleanLemmas.{parts_snoc, clean_more}

-- The segments are clean, the last is the interchange trailer, and nothing but blanks is behind.
pub record Closed (kind : Kind) (sv : Service) (at : ℕ) (bytes : List ℕ) (all : List Parts) : Type 0 where
  pub segments : List Placed
  pub end : ℕ
  pub rest : List ℕ
  pub spelt : Segments sv at segments bytes end rest
  pub blanks_behind : AreBlanks rest
  pub clean : AreClean kind segments
  pub closed : is_closed (parts_of segments) ≡ true
  pub all_are : all ≡ parts_of segments

abbrev pub Outcome : Kind → Service → ℕ → ℕ → List ℕ → Result (List Parts) EdiFault → Type 0
Outcome kind sv len at bytes (Ok all) = Closed kind sv at bytes all
Outcome kind sv len at bytes (Err f) = AreFaulty kind sv len at bytes f

-- What has been read: clean segments, and what is behind them.
pub record Read (kind : Kind) (sv : Service) (start : ℕ) (text : List ℕ) (before : List Placed) (at : ℕ) (bytes : List ℕ) : Type 0 where
  pub spelt : Segments sv start before text at bytes
  pub clean : AreClean kind before

none_left : (xs : List ℕ) → nat_lt 0 (length xs) ≡ false → xs ≡ []
none_left [] h = refl
none_left (x ∷ xs) h = grind (arith, common_steps, h)

some_left : (xs : List ℕ) → nat_lt 0 (length xs) ≡ true → xs ≢ []
some_left xs h e = let f : nat_lt 0 (length xs) ≡ false = ap (λ (zs : List ℕ). nat_lt 0 (length zs)) e in cc

-- behind the interchange
behind_last : (kind : Kind) (sv : Service) (len start : ℕ) (text : List ℕ) (before : List Placed) (at : ℕ) (bytes : List ℕ) →
    Read kind sv start text before at bytes → is_closed (parts_of before) ≡ true →
    (x : Bool) → nat_lt 0 (length (trimmed bytes)) ≡ x → Outcome kind sv len start text (row x Trailing (at + (length bytes - length
    (trimmed bytes))) >>= λ _. Ok (parts_of before))
behind_last kind sv len start text before at bytes r closed true e =
    let t = trimming bytes in
    let long : length bytes ≡ length t.blanks + length (trimmed bytes) = ap length t.bytes_are ∙ length-append t.blanks (trimmed bytes) in
    let place : at + (length bytes - length (trimmed bytes)) ≡ at + length t.blanks = omega (arith, long) in
    inr (inr (record {
      before = before;
      end = at;
      blanks = t.blanks;
      rest = trimmed bytes;
      spelt = subst (λ zs. Segments sv start before text at zs) t.bytes_are r.spelt;
      clean = r.clean;
      closed = closed;
      are_blanks = t.are_blanks;
      some = some_left (trimmed bytes) e;
      no_blank = t.no_blank;
      fault_is = ap (λ n. record { code = Trailing; place = n }) place;
    }))
behind_last kind sv len start text before at bytes r closed false e =
    let t = trimming bytes in
    let whole : bytes ≡ t.blanks = t.bytes_are ∙ (ap (λ zs. t.blanks ++ zs) (none_left (trimmed bytes) e) ∙ append-nil t.blanks) in
    record {
      segments = before;
      end = at;
      rest = bytes;
      spelt = r.spelt;
      blanks_behind = subst AreBlanks (sym whole) t.are_blanks;
      clean = r.clean;
      closed = closed;
      all_are = refl;
    }

not_nil : (xs : List ℕ) (b : ℕ) (ys : List ℕ) → xs ++ b ∷ ys ≢ []
not_nil [] b ys h = cc
not_nil (x ∷ xs) b ys h = cc

begins_with : (sv : Service) → Served sv → (xs ys : List ℕ) → begins_blank xs ≡ false → (x : Bool) → is_blank sv.terminator ≡ x →
    begins_blank (xs ++ sv.terminator ∷ ys) ≡ false
begins_with sv v [] ys h true e = let f = v.terminator sv.terminator e in let g : (sv.terminator == sv.terminator) ≡ true = grind
    (arith, common_steps) in cc
begins_with sv v [] ys h false e = e
begins_with sv v (x ∷ xs) ys h b e = h

behind_more : (kind : Kind) (sv : Service) → Served sv →
    (len start : ℕ) (text : List ℕ) (before : List Placed) (at : ℕ) (bytes q s : List ℕ) (more : List (List ℕ)) →
    Read kind sv start text before at bytes →
    is_closed (parts_of before) ≡ true → pieces sv.release sv.terminator bytes ≡ q ∷ s ∷ more → Outcome kind sv len start text (fault Trailing (at +
    (length q - length (trimmed q))))
behind_more kind sv v len start text before at bytes q s more r closed h =
    let one = one_read sv v at bytes q s more h in
    let t = trimming q in
    let long : length q ≡ length t.blanks + length (trimmed q) = ap length t.bytes_are ∙ length-append t.blanks (trimmed q) in
    let place : at + (length q - length (trimmed q)) ≡ at + length t.blanks = omega (arith, long) in
    let whole : bytes ≡ t.blanks ++ (trimmed q ++ sv.terminator ∷ one.rest) =
    one.bytes_are ∙ (ap (λ zs. zs ++ sv.terminator ∷ one.rest) t.bytes_are ∙ append_assoc t.blanks (trimmed q) (sv.terminator ∷ one.rest)) in
    inr (inr (record {
      before = before;
      end = at;
      blanks = t.blanks;
      rest = trimmed q ++ sv.terminator ∷ one.rest;
      spelt = subst (λ zs. Segments sv start before text at zs) whole r.spelt;
      clean = r.clean;
      closed = closed;
      are_blanks = t.are_blanks;
      some = not_nil (trimmed q) sv.terminator one.rest;
      no_blank = begins_with sv v (trimmed q) one.rest t.no_blank (is_blank sv.terminator) refl;
      fault_is = ap (λ n. record { code = Trailing; place = n }) place;
    }))

-- before the interchange's end
two_pieces : (q p : List ℕ) (qs : List (List ℕ)) → q ∷ [] ≡ p ∷ qs → 0 < length qs → ⊥
two_pieces q p [] e h = absurd (omega arith)
two_pieces q p (s ∷ qs) e h = cc

cut_at : (kind : Kind) (sv : Service) → Served sv → (len start : ℕ) (text : List ℕ) (before : List Placed) (at : ℕ) (bytes q : List ℕ) →
    Read kind sv start text before at bytes →
    is_closed (parts_of before) ≡ false → pieces sv.release sv.terminator bytes ≡ q ∷ [] → Outcome kind sv len start text (fault Truncated len)
cut_at kind sv v len start text before at bytes q r off h =
    inr (inl (record {
      before = before;
      end = at;
      rest = bytes;
      spelt = r.spelt;
      clean = r.clean;
      unclosed = off;
      no_more = λ s e rest k.
          let f = first_read sv v at s bytes k.0 k.1 k.2 k.3 k.4 k.5 k.6 k.7 in
          two_pieces q f.piece (pieces sv.release sv.terminator k.2) (sym h ∙ f.first) (some_piece sv.release sv.terminator false k.2);
      fault_is = refl;
    }))

at_row : (kind : Kind) (sv : Service) (len start : ℕ) (text : List ℕ) (before : List Placed) (at : ℕ) (bytes : List ℕ) (x : Placed) (end : ℕ)
    (rest : List ℕ) (next : Result (List Parts) EdiFault) →
    Read kind sv start text before at bytes → is_closed (parts_of before) ≡ false → Segments sv at (x ∷ []) bytes end rest → (o : Option EdiCode) →
    row_of kind (parts_of before) x.parts ≡ o →
    (Read kind sv start text (before ++ x ∷ []) end rest → Outcome kind sv len start text next) → Outcome kind sv len start text
    (as_result o x.place >>= λ _. next)
at_row kind sv len start text before at bytes x end rest next r off one None e again =
    again (record {
      spelt = segments_append sv start before text at bytes (x ∷ []) end rest r.spelt one;
      clean = clean_more kind before x r.clean off e;
    })
at_row kind sv len start text before at bytes x end rest next r off one (Some code) e again =
    inl (record {
      before = before;
      segment = x;
      end = end;
      rest = rest;
      spelt = segments_append sv start before text at bytes (x ∷ []) end rest r.spelt one;
      clean = r.clean;
      unclosed = off;
      row = e;
      place_is = refl;
    })

pub found : (kind : Kind) (sv : Service) → Served sv →
    (len start : ℕ) (text : List ℕ) (before : List Placed) (at : ℕ) (bytes : List ℕ) (ps : List (List ℕ)) → Read kind sv start text before at bytes →
    pieces sv.release sv.terminator bytes ≡ ps → (x : Bool) → is_closed (parts_of before) ≡ x → Outcome kind sv len start text (judged kind sv len
    (parts_of before) (stretches at ps))
found kind sv v len start text before at bytes [] r h x e =
    let some = some_piece sv.release sv.terminator false bytes in
    let none : length (pieces sv.release sv.terminator bytes) ≡ 0 = ap length h in
    absurd (omega (arith, some, none))
found kind sv v len start text before at bytes (q ∷ []) r h true e =
    let w = only_piece sv.release sv.terminator bytes q h in
    rw e (subst (λ zs. Outcome kind sv len start text (row (nat_lt 0 (length (trimmed zs))) Trailing (at + (length zs - length
    (trimmed zs))) >>= λ _. Ok (parts_of before))) (sym w)
    (behind_last kind sv len start text before at bytes r e (nat_lt 0 (length (trimmed bytes))) refl))
found kind sv v len start text before at bytes (q ∷ []) r h false e = rw e (cut_at kind sv v len start text before at bytes q r e h)
found kind sv v len start text before at bytes (q ∷ s ∷ more) r h true e = rw e (behind_more kind sv v len start text before at bytes q s more r e h)
found kind sv v len start text before at bytes (q ∷ s ∷ more) r h false e =
    let one = one_read sv v at bytes q s more h in
    let x : Placed = record { place = at + (length q - length (trimmed q)); parts = segment_of sv (trimmed q) } in
    rw e (at_row kind sv len start text before at bytes x (at + length q + 1) one.rest (judged kind sv len (parts_of before ++ x.parts ∷ [])
    (stretches (at + length q + 1) (s ∷ more))) r e one.spelt
    (row_of kind (parts_of before) x.parts) refl
    (λ k. subst (λ ys. Outcome kind sv len start text (judged kind sv len ys (stretches (at + length q + 1) (s ∷ more)))) (parts_snoc before x)
    (found kind sv v len start text (before ++ x ∷ []) (at + length q + 1) one.rest (s ∷ more) k one.pieces_are (is_closed (parts_of
    (before ++ x ∷ []))) refl)))
