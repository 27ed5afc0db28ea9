-- What the definitions say of a text is what judging its segments answers.
use Rattle.std.proofs.Common.{◌≡◌, ◌≢◌, ℕ, ◌<◌, ◌+◌, ◌-◌, inl, inr, List, [], ◌∷◌, ◌++◌, length, Option, Some, None, Ok, Err, Bool, true, false, cond, nat_lt, refl, arith, sym, ap, ◌∙◌, append_assoc, subst, length-append}
use Rattle.std.proofs.lemmas.List.{append-nil}
use Rattle.std.proofs.lemmas.Grind.{common_steps}
use Rattle.edifact_text.specs.declared.faults.EdiFault.{EdiFault}
use Rattle.edifact_text.specs.declared.faults.EdiCode.{EdiCode}
use Rattle.edifact_text.specs.declared.faults.EdiCode.TheVariants.{Truncated, Trailing}
use Rattle.edifact_text.specs.declared.faults.Kind.{Kind}
use Rattle.edifact_text.specs.declared.service.Service.{Service}
use Rattle.edifact_text.specs.Interchange.{Parts, Placed}
use Rattle.edifact_text.specs.Characters.{is_blank}
use Rattle.edifact_text.specs.Rows.{row_of, is_closed}
use Rattle.edifact_text.specs.Spelling.{Segments, AreBlanks, begins_blank}
use Rattle.edifact_text.specs.Faults.{parts_of, AreClean, IsRowFault, IsCut, IsTrailed, AreFaulty}
use Rattle.edifact_text.specs.Pieces.{pieces, pieces_from, separates, releases, with_byte}
use Rattle.edifact_text.specs.Reading.{fault, trimmed, Stretch, stretches, segment_of, judged}
use Rattle.edifact_text.proofs.PiecesLemmas.{some_piece}
use Rattle.edifact_text.proofs.ServedLemmas.{Served}
use Rattle.edifact_text.proofs.SpellingLemmas.{last_piece, prepend, prepend_cons}
use Rattle.edifact_text.proofs.ReadingLemmas.{only_piece}
use Rattle.edifact_text.proofs.SegmentLemmas.{one_read, first_read, blanks_calm, trimmed_blanks}
use Rattle.edifact_text.proofs.FoundLemmas.{Closed}

-- Judging goes on behind a segment to which no row applies.
step_over : (kind : Kind) (sv : Service) (len : ℕ) (before : List Parts) (s : Stretch) (next : ℕ) (qs : List (List ℕ)) → 0 < length qs →
    is_closed before ≡ false → row_of kind before (segment_of sv s.bytes) ≡ None →
    judged kind sv len before (s ∷ stretches next qs) ≡ judged kind sv len (before ++ segment_of sv s.bytes ∷ []) (stretches next qs)
step_over kind sv len before s next [] h off none = absurd (omega arith)
step_over kind sv len before s next (q ∷ qs) h off none = rw (off, none) refl

-- and stops at a row.
stop_at : (kind : Kind) (sv : Service) (len : ℕ) (before : List Parts) (s : Stretch) (next : ℕ) (qs : List (List ℕ)) (code : EdiCode) →
    0 < length qs → is_closed before ≡ false → row_of kind before (segment_of sv s.bytes) ≡ Some code →
    judged kind sv len before (s ∷ stretches next qs) ≡ fault code s.place
stop_at kind sv len before s next [] code h off some = absurd (omega arith)
stop_at kind sv len before s next (q ∷ qs) code h off some = rw (off, some) refl

-- Clean behind some segments.
pub CleanBehind : Kind → List Parts → List Placed → Type 0
CleanBehind kind before segments =
    (b : List Placed) (s : Placed) (c : List Placed) → segments ≡ b ++ s ∷ c → (is_closed (before ++ parts_of b) ≡ false) × (row_of kind
    (before ++ parts_of b) s.parts ≡ None)

clean_tail : (kind : Kind) (before : List Parts) (x : Placed) (xs : List Placed) → CleanBehind kind before (x ∷ xs) →
    CleanBehind kind (before ++ x.parts ∷ []) xs
unfolding CleanBehind
clean_tail kind before x xs h b s c e =
    let k = h (x ∷ b) s c (ap (λ zs. x ∷ zs) e) in
    let g : (before ++ x.parts ∷ []) ++ parts_of b ≡ before ++ parts_of (x ∷ b) = append_assoc before (x.parts ∷ []) (parts_of b) in
    (ap is_closed g ∙ k.0, ap (λ ys. row_of kind ys s.parts) g ∙ k.1)

clean_head : (kind : Kind) (before : List Parts) (x : Placed) (xs : List Placed) → CleanBehind kind before (x ∷ xs) →
    (is_closed before ≡ false) × (row_of kind before x.parts ≡ None)
unfolding CleanBehind
clean_head kind before x xs h =
    let k = h [] x xs refl in
    (ap is_closed (sym (append-nil before)) ∙ k.0, ap (λ ys. row_of kind ys x.parts) (sym (append-nil before)) ∙ k.1)

clean_all : (kind : Kind) (xs : List Placed) → AreClean kind xs → CleanBehind kind [] xs
unfolding CleanBehind
clean_all kind xs h b s c e = h b s c e

run_on : (kind : Kind) (sv : Service) → Served sv →
    (len : ℕ) (before : List Parts) (at : ℕ) (xs : List Placed) (bytes : List ℕ) (end : ℕ) (rest : List ℕ) → Segments sv at xs bytes end rest →
    CleanBehind kind before xs →
    judged kind sv len before (stretches at (pieces sv.release sv.terminator bytes)) ≡ judged kind sv len (before ++ parts_of xs) (stretches end
    (pieces sv.release sv.terminator rest))
run_on kind sv v len before at [] bytes end rest h c =
    ap (λ n. judged kind sv len before (stretches n (pieces sv.release sv.terminator bytes))) h.0
    ∙ (ap (λ zs. judged kind sv len before (stretches end (pieces sv.release sv.terminator zs))) h.1
    ∙ ap (λ ys. judged kind sv len ys (stretches end (pieces sv.release sv.terminator rest))) (sym (append-nil before)))
run_on kind sv v len before at (x ∷ xs) bytes end rest h c =
    let f = first_read sv v at x bytes h.0 h.1 h.2 h.3 h.4 h.5 h.6 h.7 in
    let next = at + length h.0 + length h.1 + 1 in
    let k = clean_head kind before x xs c in
    let none : row_of kind before (segment_of sv f.text) ≡ None = ap (row_of kind before) f.parts_are ∙ k.1 in
    ap (judged kind sv len before) f.read
    ∙ (step_over kind sv len before (record { place = x.place; bytes = f.text }) next (pieces sv.release sv.terminator h.2)
    (some_piece sv.release sv.terminator false h.2) k.0 none
    ∙ (ap (λ (y : Parts). judged kind sv len (before ++ y ∷ []) (stretches next (pieces sv.release sv.terminator h.2))) f.parts_are
    ∙ (run_on kind sv v len (before ++ x.parts ∷ []) next xs h.2 end rest h.8 (clean_tail kind before x xs c)
    ∙ ap (λ ys. judged kind sv len ys (stretches end (pieces sv.release sv.terminator rest))) (append_assoc before (x.parts ∷ []) (parts_of xs)))))

-- From the beginning.
pub run : (kind : Kind) (sv : Service) → Served sv → (len at : ℕ) (xs : List Placed) (bytes : List ℕ) (end : ℕ) (rest : List ℕ) →
    Segments sv at xs bytes end rest → AreClean kind xs →
    judged kind sv len [] (stretches at (pieces sv.release sv.terminator bytes)) ≡ judged kind sv len (parts_of xs) (stretches end
    (pieces sv.release sv.terminator rest))
run kind sv v len at xs bytes end rest h c = run_on kind sv v len [] at xs bytes end rest h (clean_all kind xs c)

-- The segments in front of another run.
pub record Between (sv : Service) (at : ℕ) (xs ys : List Placed) (bytes : List ℕ) (end : ℕ) (rest : List ℕ) : Type 0 where
  pub mid : ℕ
  pub between : List ℕ
  pub front : Segments sv at xs bytes mid between
  pub behind : Segments sv mid ys between end rest

pub segments_split : (sv : Service) (at : ℕ) (xs ys : List Placed) (bytes : List ℕ) (end : ℕ) (rest : List ℕ) →
    Segments sv at (xs ++ ys) bytes end rest → Between sv at xs ys bytes end rest
segments_split sv at [] ys bytes end rest h = record { mid = at; between = bytes; front = (refl, refl); behind = h }
segments_split sv at (x ∷ xs) ys bytes end rest h =
    let k = segments_split sv (at + length h.0 + length h.1 + 1) xs ys h.2 end rest h.8 in
    record { mid = k.mid; between = k.between; front = (h.0, h.1, h.2, h.3, h.4, h.5, h.6, h.7, k.front); behind = k.behind }

-- Blanks alone are one piece.
only_blanks : (sv : Service) → Served sv → (rest : List ℕ) → AreBlanks rest → pieces sv.release sv.terminator rest ≡ rest ∷ []
only_blanks sv v rest h = last_piece sv.release sv.terminator rest (blanks_calm sv v rest h)

nothing_behind : (kind : Kind) (sv : Service) (len : ℕ) (all : List Parts) (end : ℕ) (q : List ℕ) → is_closed all ≡ true → trimmed q ≡ [] →
    judged kind sv len all (stretches end (q ∷ [])) ≡ Ok all
nothing_behind kind sv len all end q h e = rw (h, e) refl

trimmed_all : (rest : List ℕ) → AreBlanks rest → trimmed rest ≡ []
trimmed_all rest h = ap trimmed (sym (append-nil rest)) ∙ trimmed_blanks rest [] h refl

-- A message is judged to be one.
pub closed_judged : (kind : Kind) (sv : Service) → Served sv → (len at : ℕ) (bytes : List ℕ) (all : List Parts) → Closed kind sv at bytes all →
    judged kind sv len [] (stretches at (pieces sv.release sv.terminator bytes)) ≡ Ok all
closed_judged kind sv v len at bytes all c =
    run kind sv v len at c.segments bytes c.end c.rest c.spelt c.clean
    ∙ (ap (λ ps. judged kind sv len (parts_of c.segments) (stretches c.end ps)) (only_blanks sv v c.rest c.blanks_behind)
    ∙ (nothing_behind kind sv len (parts_of c.segments) c.end c.rest c.closed (trimmed_all c.rest c.blanks_behind)
    ∙ ap (λ ys. Ok ys) (sym c.all_are)))

-- So is a row.
fault_parts : (f : EdiFault) (place : ℕ) → f.place ≡ place → fault {A = List Parts} f.code place ≡ Err f
fault_parts f place h = rw (← h) refl

row_judged : (kind : Kind) (sv : Service) → Served sv → (len at : ℕ) (bytes : List ℕ) (f : EdiFault) → IsRowFault kind sv at bytes f →
    judged kind sv len [] (stretches at (pieces sv.release sv.terminator bytes)) ≡ Err f
row_judged kind sv v len at bytes f r =
    let s = segments_split sv at r.before (r.segment ∷ []) bytes r.end r.rest r.spelt in
    let h = s.behind in
    let k = first_read sv v s.mid r.segment s.between h.0 h.1 h.2 h.3 h.4 h.5 h.6 h.7 in
    let some : row_of kind (parts_of r.before) (segment_of sv k.text) ≡ Some f.code = ap (row_of kind (parts_of r.before)) k.parts_are ∙ r.row in
    run kind sv v len at r.before bytes s.mid s.between s.front r.clean
    ∙ (ap (judged kind sv len (parts_of r.before)) k.read
    ∙ (stop_at kind sv len (parts_of r.before) (record { place = r.segment.place; bytes = k.text }) (s.mid + length h.0 + length h.1 + 1)
    (pieces sv.release sv.terminator h.2) f.code
    (some_piece sv.release sv.terminator false h.2) r.unclosed some
    ∙ fault_parts f r.segment.place r.place_is))

-- and a text that ends too early,
cut_here : (kind : Kind) (sv : Service) → Served sv → (len : ℕ) (before : List Parts) (end : ℕ) (rest : List ℕ) (ps : List (List ℕ)) →
    pieces sv.release sv.terminator rest ≡ ps → is_closed before ≡ false →
    ((s : Placed) (e : ℕ) (r : List ℕ) → Segments sv end (s ∷ []) rest e r → ⊥) → judged kind sv len before (stretches end ps) ≡ fault Truncated len
cut_here kind sv v len before end rest [] h off none_spelt = rw off refl
cut_here kind sv v len before end rest (q ∷ []) h off none_spelt = rw off refl
cut_here kind sv v len before end rest (q ∷ s ∷ more) h off none_spelt =
    let one = one_read sv v end rest q s more h in
    absurd (none_spelt (record { place = end + (length q - length (trimmed q)); parts = segment_of sv (trimmed q) })
    (end + length q + 1) one.rest one.spelt)

cut_judged : (kind : Kind) (sv : Service) → Served sv → (len at : ℕ) (bytes : List ℕ) (f : EdiFault) → IsCut kind sv len at bytes f →
    judged kind sv len [] (stretches at (pieces sv.release sv.terminator bytes)) ≡ Err f
cut_judged kind sv v len at bytes f c =
    run kind sv v len at c.before bytes c.end c.rest c.spelt c.clean
    ∙ (cut_here kind sv v len (parts_of c.before) c.end c.rest (pieces sv.release sv.terminator c.rest) refl c.unclosed c.no_more
    ∙ ap (λ (g : EdiFault). Err g) (sym c.fault_is))

-- and one with something behind it.
starts : (b : ℕ) (bs : List ℕ) (x : Bool) (ps qs more : List (List ℕ)) (q : List ℕ) → cond x ([] ∷ ps) (with_byte b qs) ≡ q ∷ more →
    is_blank b ≡ false → begins_blank q ≡ false
starts b bs true ps qs more q h e = let k : [] ≡ q = cc in subst (λ zs. begins_blank zs ≡ false) k refl
starts b bs false ps [] more q h e = let k : b ∷ [] ≡ q = cc in subst (λ zs. begins_blank zs ≡ false) k e
starts b bs false ps (p ∷ qs) more q h e = let k : b ∷ p ≡ q = cc in subst (λ zs. begins_blank zs ≡ false) k e

first_no_blank : (r : Option ℕ) (sep : ℕ) (bytes q : List ℕ) (more : List (List ℕ)) → pieces r sep bytes ≡ q ∷ more → begins_blank bytes ≡ false →
    begins_blank q ≡ false
first_no_blank r sep [] q more h e = let k : [] ≡ q = cc in subst (λ zs. begins_blank zs ≡ false) k refl
first_no_blank r sep (b ∷ bytes) q more h e = starts b bytes (separates r sep false b) (pieces_from r sep false bytes) (pieces_from r sep
    (releases r false b) bytes) more q h e

trailing_place : (blanks q : List ℕ) (end : ℕ) → end + (length (blanks ++ q) - length q) ≡ end + length blanks
trailing_place blanks q end = omega (arith, length-append blanks q)

trailing_one : (kind : Kind) (sv : Service) (len : ℕ) (all : List Parts) (end : ℕ) (blanks q : List ℕ) → is_closed all ≡ true →
    trimmed (blanks ++ q) ≡ q → q ≢ [] →
    judged kind sv len all (stretches end ((blanks ++ q) ∷ [])) ≡ fault Trailing (end + length blanks)
trailing_one kind sv len all end blanks [] h t some = absurd (some refl)
trailing_one kind sv len all end blanks (b ∷ bs) h t some =
    let long : nat_lt 0 (length (b ∷ bs)) ≡ true = grind (arith, common_steps) in
    rw (h, t, long) (ap (λ n. fault Trailing n) (trailing_place blanks (b ∷ bs) end))

trailing_two : (kind : Kind) (sv : Service) (len : ℕ) (all : List Parts) (end : ℕ) (blanks q s : List ℕ) (more : List (List ℕ)) →
    is_closed all ≡ true → trimmed (blanks ++ q) ≡ q →
    judged kind sv len all (stretches end ((blanks ++ q) ∷ s ∷ more)) ≡ fault Trailing (end + length blanks)
trailing_two kind sv len all end blanks q s more h t = rw (h, t) (ap (λ n. fault Trailing n) (trailing_place blanks q end))

trailing_at : (kind : Kind) (sv : Service) → Served sv → (len : ℕ) (all : List Parts) (end : ℕ) (blanks rest : List ℕ) (ps : List (List ℕ)) →
    pieces sv.release sv.terminator rest ≡ ps → is_closed all ≡ true → AreBlanks blanks → begins_blank rest ≡ false → rest ≢ [] →
    judged kind sv len all (stretches end (pieces sv.release sv.terminator (blanks ++ rest))) ≡ fault Trailing (end + length blanks)
trailing_at kind sv v len all end blanks rest [] e h b n some =
    let k = some_piece sv.release sv.terminator false rest in
    let none : length (pieces sv.release sv.terminator rest) ≡ 0 = ap length e in
    absurd (omega (arith, k, none))
trailing_at kind sv v len all end blanks rest (q ∷ []) e h b n some =
    let w = only_piece sv.release sv.terminator rest q e in
    let first : pieces sv.release sv.terminator (blanks ++ rest) ≡ (blanks ++ q) ∷ [] = (blanks_calm sv v blanks b).runs rest ∙ (ap
    (prepend blanks) e ∙ prepend_cons blanks q []) in
    let t = trimmed_blanks blanks q b (first_no_blank sv.release sv.terminator rest q [] e n) in
    ap (λ ps. judged kind sv len all (stretches end ps)) first ∙ trailing_one kind sv len all end blanks q h t (λ z. some (sym w ∙ z))
trailing_at kind sv v len all end blanks rest (q ∷ s ∷ more) e h b n some =
    let first : pieces sv.release sv.terminator (blanks ++ rest) ≡ (blanks ++ q) ∷ s ∷ more = (blanks_calm sv v blanks b).runs rest ∙ (ap
    (prepend blanks) e ∙ prepend_cons blanks q (s ∷ more)) in
    let t = trimmed_blanks blanks q b (first_no_blank sv.release sv.terminator rest q (s ∷ more) e n) in
    ap (λ ps. judged kind sv len all (stretches end ps)) first ∙ trailing_two kind sv len all end blanks q s more h t

trailed_judged : (kind : Kind) (sv : Service) → Served sv → (len at : ℕ) (bytes : List ℕ) (f : EdiFault) → IsTrailed kind sv at bytes f →
    judged kind sv len [] (stretches at (pieces sv.release sv.terminator bytes)) ≡ Err f
trailed_judged kind sv v len at bytes f c =
    run kind sv v len at c.before bytes c.end (c.blanks ++ c.rest) c.spelt c.clean
    ∙ (trailing_at kind sv v len (parts_of c.before) c.end c.blanks c.rest
    (pieces sv.release sv.terminator c.rest) refl c.closed c.are_blanks c.no_blank c.some
    ∙ ap (λ (g : EdiFault). Err g) (sym c.fault_is))

pub faulty_judged : (kind : Kind) (sv : Service) → Served sv → (len at : ℕ) (bytes : List ℕ) (f : EdiFault) → AreFaulty kind sv len at bytes f →
    judged kind sv len [] (stretches at (pieces sv.release sv.terminator bytes)) ≡ Err f
faulty_judged kind sv v len at bytes f (inl h) = row_judged kind sv v len at bytes f h
faulty_judged kind sv v len at bytes f (inr (inl h)) = cut_judged kind sv v len at bytes f h
faulty_judged kind sv v len at bytes f (inr (inr h)) = trailed_judged kind sv v len at bytes f h
