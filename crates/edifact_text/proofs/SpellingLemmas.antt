use Rattle.std.proofs.Common.{◌≡◌, ℕ, inl, inr, List, [], ◌∷◌, ◌++◌, Option, Some, Bool, true, false, ◌||◌, ◌==◌, nat_eq, refl, sym, ◌∙◌, ap, rules, append_assoc, map, subst}
use Rattle.std.proofs.lemmas.List.{append-nil}
use Rattle.edifact_text.specs.declared.service.Service.{Service}
use Rattle.edifact_text.specs.Characters.{is_release}
use Rattle.edifact_text.specs.Spelling.{is_service, IsSpelt, Literal, Joined, Element, Segment, Apart}
use Rattle.edifact_text.specs.Pieces.{pieces_from, pieces, with_byte, literal_from, literal}
use Rattle.edifact_text.specs.Reading.{element_of, segment_of}

-- The bytes before the first piece.
abbrev pub prepend : List ℕ → List (List ℕ) → List (List ℕ)
prepend [] ps = ps
prepend (b ∷ ys) ps = with_byte b (prepend ys ps)

pub prepend_cons : (ys p : List ℕ) (ps : List (List ℕ)) → prepend ys (p ∷ ps) ≡ (ys ++ p) ∷ ps
prepend_cons [] p ps = refl
prepend_cons (b ∷ ys) p ps = rw (prepend_cons ys p ps) refl

prepend_append : (xs ys : List ℕ) (ps : List (List ℕ)) → prepend (xs ++ ys) ps ≡ prepend xs (prepend ys ps)
prepend_append [] ys ps = refl
prepend_append (a ∷ xs) ys ps = ap (with_byte a) (prepend_append xs ys ps)

-- The bytes belong to one piece, whatever follows.
pub record Calm (r : Option ℕ) (sep : ℕ) (bytes : List ℕ) : Type 0 where
  pub runs : (rest : List ℕ) → pieces_from r sep false (bytes ++ rest) ≡ prepend bytes (pieces_from r sep false rest)

pub calm_nil : (r : Option ℕ) (sep : ℕ) → Calm r sep []
calm_nil r sep = record { runs = λ rest. refl }

pub calm_append : (r : Option ℕ) (sep : ℕ) (xs ys : List ℕ) → Calm r sep xs → Calm r sep ys → Calm r sep (xs ++ ys)
calm_append r sep xs ys f g = record {
  runs = λ rest.
      ap (pieces_from r sep false) (append_assoc xs ys rest) ∙ (f.runs (ys ++ rest) ∙ (ap (prepend xs) (g.runs rest) ∙ sym (prepend_append xs ys
      (pieces_from r sep false rest))));
}

-- a byte that is neither the separator nor the release character
pub calm_byte : (r : Option ℕ) (sep b : ℕ) → is_release r b ≡ false → (b == sep) ≡ false → Calm r sep (b ∷ [])
calm_byte r sep b h e = record { runs = λ rest. rw (h, e) refl }

-- a released byte
pub calm_released : (sep rel b : ℕ) → Calm (Some rel) sep (rel ∷ b ∷ [])
calm_released sep rel b = record { runs = λ rest. let e : nat_eq rel rel ≡ true = search rules in rw e refl }

-- A calm run between separators is a piece.
pub piece_of : (r : Option ℕ) (sep : ℕ) (bytes rest : List ℕ) → Calm r sep bytes → is_release r sep ≡ false →
    pieces r sep (bytes ++ sep ∷ rest) ≡ bytes ∷ pieces r sep rest
piece_of r sep bytes rest c h =
    let e : nat_eq sep sep ≡ true = search rules in
    c.runs (sep ∷ rest) ∙ rw (h, e) (prepend_cons bytes [] (pieces r sep rest) ∙ ap (λ zs. zs ∷ pieces r sep rest) (append-nil bytes))

pub last_piece : (r : Option ℕ) (sep : ℕ) (bytes : List ℕ) → Calm r sep bytes → pieces r sep bytes ≡ bytes ∷ []
last_piece r sep bytes c =
    ap (pieces r sep) (sym (append-nil bytes)) ∙ (c.runs [] ∙ (prepend_cons bytes [] [] ∙ ap (λ zs. zs ∷ []) (append-nil bytes)))

or_false : (a b : Bool) → (a || b) ≡ false → (a ≡ false) × (b ≡ false)
or_false true b h = cc
or_false false b h = (refl, h)

-- what is no service character is neither the release character nor a separator
pub no_release : (sv : Service) (b : ℕ) → is_service sv b ≡ false → is_release sv.release b ≡ false
no_release sv b h = (or_false (is_release sv.release b) (b == sv.component) (or_false (is_release sv.release b || b == sv.component)
    (b == sv.element) (or_false (is_release sv.release b || b == sv.component || b == sv.element) (b == sv.terminator) h).0).0).0

pub no_component : (sv : Service) (b : ℕ) → is_service sv b ≡ false → (b == sv.component) ≡ false
no_component sv b h = (or_false (is_release sv.release b) (b == sv.component) (or_false (is_release sv.release b || b == sv.component)
    (b == sv.element) (or_false (is_release sv.release b || b == sv.component || b == sv.element) (b == sv.terminator) h).0).0).1

pub no_element : (sv : Service) (b : ℕ) → is_service sv b ≡ false → (b == sv.element) ≡ false
no_element sv b h = (or_false (is_release sv.release b || b == sv.component) (b == sv.element) (or_false
    (is_release sv.release b || b == sv.component || b == sv.element) (b == sv.terminator) h).0).1

pub no_terminator : (sv : Service) (b : ℕ) → is_service sv b ≡ false → (b == sv.terminator) ≡ false
no_terminator sv b h = (or_false (is_release sv.release b || b == sv.component || b == sv.element) (b == sv.terminator) h).1

spelt_calm : (sv : Service) (sep b : ℕ) (bytes : List ℕ) → ((c : ℕ) → is_service sv c ≡ false → (c == sep) ≡ false) → IsSpelt sv b bytes →
    Calm sv.release sep bytes
spelt_calm sv sep b bytes off (inl h) = subst (Calm sv.release sep) (sym h.1) (calm_byte sv.release sep b (no_release sv b h.0) (off b h.0))
spelt_calm sv sep b bytes off (inr h) = subst (Calm sv.release sep) (sym h.2) (subst (λ r. Calm r sep (h.0 ∷ b ∷ [])) (sym h.1)
    (calm_released sep h.0 b))

pub literal_calm : (sv : Service) (sep : ℕ) (lit bytes : List ℕ) → ((c : ℕ) → is_service sv c ≡ false → (c == sep) ≡ false) → Literal sv lit bytes →
    Calm sv.release sep bytes
literal_calm sv sep [] bytes off h = subst (Calm sv.release sep) (sym h) (calm_nil sv.release sep)
literal_calm sv sep (b ∷ more) bytes off h =
    subst (Calm sv.release sep) (sym h.2) (calm_append sv.release sep h.0 h.1 (spelt_calm sv sep b h.0 off h.3)
    (literal_calm sv sep more h.1 off h.4))

released_means : (rel b : ℕ) (rest : List ℕ) → literal_from (Some rel) false (rel ∷ b ∷ rest) ≡ b ∷ literal_from (Some rel) false rest
released_means rel b rest = let e : nat_eq rel rel ≡ true = search rules in rw e refl

spelt_means : (sv : Service) (b : ℕ) (bytes rest : List ℕ) → IsSpelt sv b bytes →
    literal_from sv.release false (bytes ++ rest) ≡ b ∷ literal_from sv.release false rest
spelt_means sv b bytes rest (inl h) = rw (h.1, no_release sv b h.0) refl
spelt_means sv b bytes rest (inr h) = ap (λ zs. literal_from sv.release false (zs ++ rest)) h.2 ∙ subst (λ r. literal_from r false
    (h.0 ∷ b ∷ rest) ≡ b ∷ literal_from r false rest) (sym h.1) (released_means h.0 b rest)

-- What is spelt is what is meant.
pub literal_means : (sv : Service) (lit bytes : List ℕ) → Literal sv lit bytes → literal sv.release bytes ≡ lit
literal_means sv [] bytes h = rw h refl
literal_means sv (b ∷ more) bytes h =
    rw h.2 (spelt_means sv b h.0 h.1 h.3 ∙ ap (λ zs. b ∷ zs) (literal_means sv more h.1 h.4))

-- Parts joined by a separator: their pieces, and what they mean.
pub joined_pieces : {X : Type 0} (r : Option ℕ) (sep : ℕ) (P : X → List ℕ → Type 0) (f : List ℕ → X) → is_release r sep ≡ false →
    ((x : X) (bytes : List ℕ) → P x bytes → Calm r sep bytes) → ((x : X) (bytes : List ℕ) → P x bytes → f bytes ≡ x) →
    (xs : List X) (bytes : List ℕ) → Joined P sep xs bytes → map f (pieces r sep bytes) ≡ xs
joined_pieces r sep P f off calm means [] bytes h = absurd h
joined_pieces r sep P f off calm means (x ∷ []) bytes h =
    ap (map f) (last_piece r sep bytes (calm x bytes h)) ∙ ap (λ y. y ∷ []) (means x bytes h)
joined_pieces r sep P f off calm means (x ∷ y ∷ more) bytes h =
    ap (λ zs. map f (pieces r sep zs)) h.2 ∙ (ap (map f) (piece_of r sep h.0 h.1 (calm x h.0 h.3) off)
    ∙ (ap (λ z. z ∷ map f (pieces r sep h.1)) (means x h.0 h.3) ∙ ap (λ zs. x ∷ zs) (joined_pieces r sep P f off calm means (y ∷ more) h.1 h.4)))

-- Parts joined by a separator of another kind are calm if each is.
pub joined_calm : {X : Type 0} (r : Option ℕ) (sep other : ℕ) (P : X → List ℕ → Type 0) → is_release r other ≡ false → (other == sep) ≡ false →
    ((x : X) (bytes : List ℕ) → P x bytes → Calm r sep bytes) → (xs : List X) (bytes : List ℕ) → Joined P other xs bytes → Calm r sep bytes
joined_calm r sep other P off ne calm [] bytes h = absurd h
joined_calm r sep other P off ne calm (x ∷ []) bytes h = calm x bytes h
joined_calm r sep other P off ne calm (x ∷ y ∷ more) bytes h =
    subst (Calm r sep) (sym h.2) (calm_append r sep h.0 (other ∷ h.1) (calm x h.0 h.3)
    (calm_append r sep (other ∷ []) h.1 (calm_byte r sep other off ne) (joined_calm r sep other P off ne calm (y ∷ more) h.1 h.4)))

-- A segment's spelling has one reading: its pieces.
pub segment_means : (sv : Service) → Apart sv → (s : List (List (List ℕ))) (bytes : List ℕ) → Segment sv s bytes → segment_of sv bytes ≡ s
unfolding segment_of
segment_means sv a s bytes h =
    joined_pieces sv.release sv.element (Element sv) (element_of sv) a.element
    (λ e bs q. joined_calm sv.release sv.element sv.component (Literal sv) a.component a.component_element
    (λ l cs p. literal_calm sv sv.element l cs (no_element sv) p) e bs q)
    (λ e bs q. joined_pieces sv.release sv.component (Literal sv) (literal sv.release) a.component (λ l cs p. literal_calm sv sv.component l cs
    (no_component sv) p) (λ l cs p. literal_means sv l cs p) e bs q)
    s bytes h

-- and the terminator behind it is the first that isn't released.
pub segment_calm : (sv : Service) → Apart sv → (s : List (List (List ℕ))) (bytes : List ℕ) → Segment sv s bytes → Calm sv.release sv.terminator bytes
segment_calm sv a s bytes h =
    joined_calm sv.release sv.terminator sv.element (Element sv) a.element a.element_terminator
    (λ e bs q. joined_calm sv.release sv.terminator sv.component (Literal sv) a.component a.component_terminator
    (λ l cs p. literal_calm sv sv.terminator l cs (no_terminator sv) p) e bs q)
    s bytes h

-- So a segment and its terminator are the first piece of what begins with them.
pub segment_is_first : (sv : Service) → Apart sv → (s : List (List (List ℕ))) (bytes rest : List ℕ) → Segment sv s bytes →
    pieces sv.release sv.terminator (bytes ++ sv.terminator ∷ rest) ≡ bytes ∷ pieces sv.release sv.terminator rest
segment_is_first sv a s bytes rest h = piece_of sv.release sv.terminator bytes rest (segment_calm sv a s bytes h) a.terminator
