-- What is read is spelt so.
use Rattle.std.proofs.Common.{◌≡◌, ℕ, inl, inr, List, [], ◌∷◌, ◌++◌, Option, Some, None, Bool, true, false, cond, not, ◌&&◌, ◌||◌, ◌==◌, nat_eq, arith, refl, sym, ◌∙◌, ap, if◌then◌else◌, map, subst, ◌<◌, length, get_or, zero, suc}
use Rattle.std.proofs.lemmas.Grind.{common_steps}
use Rattle.edifact_text.specs.declared.service.Service.{Service}
use Rattle.edifact_text.specs.Interchange.{component}
use Rattle.edifact_text.specs.Characters.{is_release}
use Rattle.edifact_text.specs.Spelling.{is_service, Literal, Joined, Element, Segment}
use Rattle.edifact_text.specs.Pieces.{releases, separates, pieces_from, pieces, with_byte, literal_from, literal}
use Rattle.edifact_text.specs.Reading.{element_of, segment_of}
use Rattle.edifact_text.specs.Stages.{part}
use Rattle.edifact_text.proofs.PiecesLemmas.{some_piece}

-- Each byte that is neither released nor the release character is allowed, and none is missing behind the last.
abbrev pub is_clear : Option ℕ → (ℕ → Bool) → Bool → List ℕ → Bool
is_clear r p held [] = not held
is_clear r p true (b ∷ bytes) = is_clear r p false bytes
is_clear r p false (b ∷ bytes) = if is_release r b then is_clear r p true bytes else (p b && is_clear r p false bytes)

abbrev pub AllClear : Option ℕ → (ℕ → Bool) → List (List ℕ) → Type 0
AllClear r p [] = Unit {0}
AllClear r p (q ∷ qs) = (is_clear r p false q ≡ true) × AllClear r p qs

abbrev pub FirstClear : Option ℕ → (ℕ → Bool) → Bool → List (List ℕ) → Type 0
FirstClear r p held [] = ⊥
FirstClear r p held (q ∷ qs) = (is_clear r p held q ≡ true) × AllClear r p qs

abbrev pub but : (ℕ → Bool) → ℕ → ℕ → Bool
but p sep b = p b && not (b == sep)

pub and_true : (a b : Bool) → (a && b) ≡ true → (a ≡ true) × (b ≡ true)
and_true true b h = (refl, h)
and_true false b h = cc

-- the three things that a byte may be
piece_held : (r : Option ℕ) (p : ℕ → Bool) (b : ℕ) (ps : List (List ℕ)) → FirstClear r p false ps → FirstClear r p true (with_byte b ps)
piece_held r p b [] h = absurd h
piece_held r p b (q ∷ qs) h = h

piece_release : (r : Option ℕ) (p : ℕ → Bool) (b : ℕ) (ps : List (List ℕ)) → is_release r b ≡ true → FirstClear r p true ps →
    FirstClear r p false (with_byte b ps)
piece_release r p b [] e h = absurd h
piece_release r p b (q ∷ qs) e h = rw e h

piece_plain : (r : Option ℕ) (p : ℕ → Bool) (b : ℕ) (ps : List (List ℕ)) → is_release r b ≡ false → p b ≡ true → FirstClear r p false ps →
    FirstClear r p false (with_byte b ps)
piece_plain r p b [] e a h = absurd h
piece_plain r p b (q ∷ qs) e a h = rw (e, a) h

first_all : (r : Option ℕ) (p : ℕ → Bool) (ps : List (List ℕ)) → FirstClear r p false ps → AllClear r p ps
first_all r p [] h = absurd h
first_all r p (q ∷ qs) h = h

at_byte : (r : Option ℕ) (p : ℕ → Bool) (sep b : ℕ) (bytes : List ℕ) (x y : Bool) → is_release r b ≡ x → (b == sep) ≡ y →
    cond x (is_clear r p true bytes) (p b && is_clear r p false bytes) ≡ true →
    (is_clear r p true bytes ≡ true → FirstClear r (but p sep) true (pieces_from r sep true bytes)) →
    (is_clear r p false bytes ≡ true → FirstClear r (but p sep) false (pieces_from r sep false bytes)) →
    FirstClear r (but p sep) false (cond (not x && y) ([] ∷ pieces_from r sep false bytes) (with_byte b (pieces_from r sep x bytes)))
at_byte r p sep b bytes true y e n h on off = piece_release r (but p sep) b (pieces_from r sep true bytes) e (on h)
at_byte r p sep b bytes false true e n h on off = (
  refl,
  first_all r (but p sep) (pieces_from r sep false bytes) (off (and_true (p b)
      (is_clear r p false bytes) h).1),
)
at_byte r p sep b bytes false false e n h on off =
    let q = and_true (p b) (is_clear r p false bytes) h in
    piece_plain r (but p sep) b (pieces_from r sep false bytes) e (rw (q.0, n) refl) (off q.1)

-- Pieces have nothing but allowed bytes, and no separator.
pub clear_pieces : (r : Option ℕ) (p : ℕ → Bool) (sep : ℕ) (held : Bool) (bytes : List ℕ) → is_clear r p held bytes ≡ true →
    FirstClear r (but p sep) held (pieces_from r sep held bytes)
clear_pieces r p sep held [] h = (h, tt)
clear_pieces r p sep true (b ∷ bytes) h = piece_held r (but p sep) b (pieces_from r sep false bytes) (clear_pieces r p sep false bytes h)
clear_pieces r p sep false (b ∷ bytes) h =
    at_byte r p sep b bytes (is_release r b) (b == sep) refl refl h (clear_pieces r p sep true bytes) (clear_pieces r p sep false bytes)

-- A literal's bytes: none of them a service character that isn't released.
abbrev pub letter : Service → ℕ → Bool
letter sv b = not (is_service sv b)

is_the : (r : Option ℕ) (b : ℕ) → is_release r b ≡ true → r ≡ Some b
is_the None b h = cc
is_the (Some a) b h = let e : a ≡ b = grind (arith, common_steps, h) in ap (λ n. Some n) e

not_true : (b : Bool) → not b ≡ true → b ≡ false
not_true true h = cc
not_true false h = refl

last_letter : (sv : Service) (b : ℕ) (x : Bool) → is_release sv.release b ≡ x → cond x false (letter sv b && true) ≡ true →
    Literal sv (cond x [] (b ∷ [])) (b ∷ [])
last_letter sv b true e h = cc
last_letter sv b false e h = (b ∷ [], [], refl, inl (not_true (is_service sv b) (and_true (letter sv b) true h).0, refl), refl)

more_letters : (sv : Service) (b c : ℕ) (more : List ℕ) (x : Bool) → is_release sv.release b ≡ x →
    cond x (is_clear sv.release (letter sv) false more) (letter sv b && is_clear sv.release (letter sv) false (c ∷ more)) ≡ true →
    (is_clear sv.release (letter sv) false more ≡ true → Literal sv (literal sv.release more) more) →
    (is_clear sv.release (letter sv) false (c ∷ more) ≡ true → Literal sv (literal sv.release (c ∷ more)) (c ∷ more)) →
    Literal sv (cond x (c ∷ literal_from sv.release false more) (b ∷ literal_from sv.release false (c ∷ more))) (b ∷ c ∷ more)
more_letters sv b c more true e h on off = (b ∷ c ∷ [], more, refl, inr (b, is_the sv.release b e, refl), on h)
more_letters sv b c more false e h on off =
    let q = and_true (letter sv b) (is_clear sv.release (letter sv) false (c ∷ more)) h in
    (b ∷ [], c ∷ more, refl, inl (not_true (is_service sv b) q.0, refl), off q.1)

pub literal_reads : (sv : Service) (bytes : List ℕ) → is_clear sv.release (letter sv) false bytes ≡ true → Literal sv (literal sv.release bytes) bytes
literal_reads sv [] h = refl
literal_reads sv (b ∷ []) h = last_letter sv b (is_release sv.release b) refl h
literal_reads sv (b ∷ c ∷ more) h =
    more_letters sv b c more (is_release sv.release b) refl h (literal_reads sv more) (literal_reads sv (c ∷ more))

joined_bytes : ℕ → List (List ℕ) → List ℕ
joined_bytes sep [] = []
joined_bytes sep (q ∷ []) = q
joined_bytes sep (q ∷ s ∷ more) = q ++ sep ∷ joined_bytes sep (s ∷ more)

bytes_with : (sep b : ℕ) (ps : List (List ℕ)) → joined_bytes sep (with_byte b ps) ≡ b ∷ joined_bytes sep ps
unfolding joined_bytes
bytes_with sep b [] = refl
bytes_with sep b (q ∷ []) = refl
bytes_with sep b (q ∷ s ∷ more) = refl

bytes_cut : (sep : ℕ) (ps : List (List ℕ)) → 0 < length ps → joined_bytes sep ([] ∷ ps) ≡ sep ∷ joined_bytes sep ps
unfolding joined_bytes
bytes_cut sep [] h = absurd (omega arith)
bytes_cut sep (q ∷ qs) h = refl

pub separator_is : (r : Option ℕ) (sep : ℕ) (held : Bool) (b : ℕ) → separates r sep held b ≡ true → b ≡ sep
separator_is r sep true b h = cc
separator_is r sep false b h = let e = and_true (not (is_release r b)) (nat_eq b sep) h in grind (arith, common_steps, e)

cut_bytes : (sep b : ℕ) (x : Bool) (bytes : List ℕ) (ps qs : List (List ℕ)) → (x ≡ true → b ≡ sep) → 0 < length ps → joined_bytes sep ps ≡ bytes →
    joined_bytes sep qs ≡ bytes →
    joined_bytes sep (cond x ([] ∷ ps) (with_byte b qs)) ≡ b ∷ bytes
cut_bytes sep b true bytes ps qs s h e f = bytes_cut sep ps h ∙ (ap (λ zs. sep ∷ zs) e ∙ ap (λ n. n ∷ bytes) (sym (s refl)))
cut_bytes sep b false bytes ps qs s h e f = bytes_with sep b qs ∙ ap (λ zs. b ∷ zs) f

pieces_bytes : (r : Option ℕ) (sep : ℕ) (held : Bool) (bytes : List ℕ) → joined_bytes sep (pieces_from r sep held bytes) ≡ bytes
unfolding joined_bytes
pieces_bytes r sep held [] = refl
pieces_bytes r sep held (b ∷ bytes) =
    cut_bytes sep b (separates r sep held b) bytes (pieces_from r sep false bytes) (pieces_from r sep (releases r held b) bytes)
    (separator_is r sep held b)
    (some_piece r sep false bytes) (pieces_bytes r sep false bytes) (pieces_bytes r sep (releases r held b) bytes)

parts_join : {X : Type 0} (r : Option ℕ) (p : ℕ → Bool) (sep : ℕ) (P : X → List ℕ → Type 0) (f : List ℕ → X) → ((q : List ℕ) →
    is_clear r p false q ≡ true → P (f q) q) →
    (ps : List (List ℕ)) → FirstClear r p false ps → Joined P sep (map f ps) (joined_bytes sep ps)
unfolding joined_bytes
parts_join r p sep P f g [] h = absurd h
parts_join r p sep P f g (q ∷ []) h = g q h.0
parts_join r p sep P f g (q ∷ s ∷ more) h = (q, joined_bytes sep (s ∷ more), refl, g q h.0, parts_join r p sep P f g (s ∷ more) h.1)

-- What is read in pieces is spelt so.
pub joined_reads : {X : Type 0} (r : Option ℕ) (p : ℕ → Bool) (sep : ℕ) (P : X → List ℕ → Type 0) (f : List ℕ → X) → ((q : List ℕ) →
    is_clear r (but p sep) false q ≡ true → P (f q) q) →
    (bytes : List ℕ) → is_clear r p false bytes ≡ true → Joined P sep (map f (pieces r sep bytes)) bytes
joined_reads r p sep P f g bytes h =
    subst (Joined P sep (map f (pieces r sep bytes))) (pieces_bytes r sep false bytes)
    (parts_join r (but p sep) sep P f g (pieces r sep bytes) (clear_pieces r p sep false bytes h))

-- no separator of the text
abbrev pub not_terminator : Service → ℕ → Bool
not_terminator sv b = not (b == sv.terminator)

weaker_step : (r : Option ℕ) (p q : ℕ → Bool) → ((b : ℕ) → is_release r b ≡ false → p b ≡ true → q b ≡ true) → (b : ℕ) (bytes : List ℕ) (x : Bool) →
    is_release r b ≡ x →
    cond x (is_clear r p true bytes) (p b && is_clear r p false bytes) ≡ true →
    (is_clear r p true bytes ≡ true → is_clear r q true bytes ≡ true) → (is_clear r p false bytes ≡ true → is_clear r q false bytes ≡ true) →
    cond x (is_clear r q true bytes) (q b && is_clear r q false bytes) ≡ true
weaker_step r p q w b bytes true e h on off = on h
weaker_step r p q w b bytes false e h on off =
    let a = and_true (p b) (is_clear r p false bytes) h in
    rw (w b e a.0) (off a.1)

clear_weaker : (r : Option ℕ) (p q : ℕ → Bool) → ((b : ℕ) → is_release r b ≡ false → p b ≡ true → q b ≡ true) → (held : Bool) (bytes : List ℕ) →
    is_clear r p held bytes ≡ true → is_clear r q held bytes ≡ true
clear_weaker r p q w held [] h = h
clear_weaker r p q w true (b ∷ bytes) h = clear_weaker r p q w false bytes h
clear_weaker r p q w false (b ∷ bytes) h = weaker_step r p q w b bytes (is_release r b) refl h (clear_weaker r p q w true bytes)
    (clear_weaker r p q w false bytes)

four : (a b c d : Bool) → a ≡ false → (not d && not c && not b) ≡ true → not (a || b || c || d) ≡ true
four true b c d h e = cc
four false true c true h e = cc
four false true true false h e = cc
four false true false false h e = cc
four false false true true h e = cc
four false false true false h e = cc
four false false false true h e = cc
four false false false false h e = refl

letters : (sv : Service) (b : ℕ) → is_release sv.release b ≡ false → but (but (not_terminator sv) sv.element) sv.component b ≡ true →
    letter sv b ≡ true
letters sv b h e = four (is_release sv.release b) (b == sv.component) (b == sv.element) (b == sv.terminator) h e

-- A segment whose bytes hold no terminator that isn't released, and don't end in the release character, is spelt as it is read.
pub segment_reads : (sv : Service) (bytes : List ℕ) → is_clear sv.release (not_terminator sv) false bytes ≡ true →
    Segment sv (segment_of sv bytes) bytes
unfolding segment_of
segment_reads sv bytes h =
    joined_reads sv.release (not_terminator sv) sv.element (Element sv) (element_of sv)
    (λ e k. joined_reads sv.release (but (not_terminator sv) sv.element) sv.component (Literal sv) (literal sv.release)
    (λ l c. literal_reads sv l (clear_weaker sv.release (but (but (not_terminator sv) sv.element) sv.component) (letter sv)
    (letters sv) false l c)) e k)
    bytes h

-- all but the separator
abbrev pub all_but : ℕ → ℕ → Bool
all_but sep b = not (b == sep)

clear_byte : (r : Option ℕ) (sep b : ℕ) (p : List ℕ) (z : Bool) → (not z && (b == sep)) ≡ false → is_clear r (all_but sep) z p ≡ true →
    cond z (is_clear r (all_but sep) true p) (not (b == sep) && is_clear r (all_but sep) false p) ≡ true
clear_byte r sep b p true f h = h
clear_byte r sep b p false f h = rw f h

clear_cons : (r : Option ℕ) (sep b : ℕ) (held : Bool) (p : List ℕ) → separates r sep held b ≡ false →
    is_clear r (all_but sep) (releases r held b) p ≡ true → is_clear r (all_but sep) held (b ∷ p) ≡ true
clear_cons r sep b true p f h = h
clear_cons r sep b false p f h = clear_byte r sep b p (is_release r b) f h

cut_here : (r : Option ℕ) (sep b : ℕ) (held : Bool) (ps more : List (List ℕ)) (q s : List ℕ) → separates r sep held b ≡ true →
    [] ∷ ps ≡ q ∷ s ∷ more → is_clear r (all_but sep) held q ≡ true
cut_here r sep b true ps more q s f e = cc
cut_here r sep b false ps more q s f e = let d : [] ≡ q = cc in subst (λ z. is_clear r (all_but sep) false z ≡ true) d refl

goes_on : (r : Option ℕ) (sep b : ℕ) (held : Bool) (qs more : List (List ℕ)) (q s : List ℕ) → separates r sep held b ≡ false →
    with_byte b qs ≡ q ∷ s ∷ more →
    ((p : List ℕ) → qs ≡ p ∷ s ∷ more → is_clear r (all_but sep) (releases r held b) p ≡ true) → is_clear r (all_but sep) held q ≡ true
goes_on r sep b held [] more q s f e again = cc
goes_on r sep b held (p ∷ ps) more q s f e again =
    let d : b ∷ p ≡ q = cc in
    let t : p ∷ ps ≡ p ∷ s ∷ more = cc in
    subst (λ z. is_clear r (all_but sep) held z ≡ true) d (clear_cons r sep b held p f (again p t))

-- A piece with another behind it holds no separator, and doesn't end in the release character.
ended_step : (r : Option ℕ) (sep b : ℕ) (held y : Bool) (ps qs more : List (List ℕ)) (q s : List ℕ) → separates r sep held b ≡ y →
    cond y ([] ∷ ps) (with_byte b qs) ≡ q ∷ s ∷ more →
    ((p : List ℕ) → qs ≡ p ∷ s ∷ more → is_clear r (all_but sep) (releases r held b) p ≡ true) → is_clear r (all_but sep) held q ≡ true
ended_step r sep b held true ps qs more q s f h again = cut_here r sep b held ps more q s f h
ended_step r sep b held false ps qs more q s f h again = goes_on r sep b held qs more q s f h again

pub ended_clear : (r : Option ℕ) (sep : ℕ) (held : Bool) (xs q s : List ℕ) (more : List (List ℕ)) → pieces_from r sep held xs ≡ q ∷ s ∷ more →
    is_clear r (all_but sep) held q ≡ true
ended_clear r sep held [] q s more h = cc
ended_clear r sep held (b ∷ xs) q s more h =
    ended_step r sep b held (separates r sep held b) (pieces_from r sep false xs) (pieces_from r sep (releases r held b) xs) more q s refl h
    (λ p e. ended_clear r sep (releases r held b) xs p s more e)

literal_at : (r : Option ℕ) (ps : List (List ℕ)) (j : ℕ) → literal r (get_or ps j []) ≡ get_or (map (literal r) ps) j []
literal_at r [] j = refl
literal_at r (p ∷ ps) zero = refl
literal_at r (p ∷ ps) (suc j) = literal_at r ps j

nothing_at : (r : Option ℕ) (j : ℕ) → literal r (get_or ([] ∷ []) j []) ≡ []
nothing_at r zero = refl
nothing_at r (suc j) = refl

pub parts_at : (sv : Service) (es : List (List ℕ)) (i j : ℕ) →
    literal sv.release (get_or (pieces sv.release sv.component (get_or es i [])) j []) ≡ get_or (get_or (map (element_of sv) es) i []) j []
parts_at sv [] i j = nothing_at sv.release j
parts_at sv (e ∷ es) zero j = literal_at sv.release (pieces sv.release sv.component e) j
parts_at sv (e ∷ es) (suc i) j = parts_at sv es i j

-- The code's component is that of the segment.
pub part_is : (sv : Service) (bytes : List ℕ) (i j : ℕ) → part sv bytes i j ≡ component (segment_of sv bytes) i j
unfolding part component segment_of
part_is sv bytes i j = parts_at sv (pieces sv.release sv.element bytes) i j

-- What stands before a terminator is spelt as it is read.
pub ended_reads : (sv : Service) (text q s : List ℕ) (more : List (List ℕ)) → pieces sv.release sv.terminator text ≡ q ∷ s ∷ more →
    Segment sv (segment_of sv q) q
ended_reads sv text q s more h = segment_reads sv q (ended_clear sv.release sv.terminator false text q s more h)

-- One piece alone is all the bytes.
pub only_piece : (r : Option ℕ) (sep : ℕ) (bytes q : List ℕ) → pieces r sep bytes ≡ q ∷ [] → q ≡ bytes
unfolding joined_bytes
only_piece r sep bytes q h = ap (joined_bytes sep) (sym h) ∙ pieces_bytes r sep false bytes
