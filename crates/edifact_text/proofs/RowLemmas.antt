use Rattle.std.proofs.Common.{◌≡◌, ℕ, ◌∷◌, [], List, Bool, true, false, ◌&&◌, nat_lt, length, map, refl, ap, codes, ◌+◌}
use Rattle.std.specs.List.{list_any}
use Rattle.std.proofs.lemmas.List.{length-map}
use Rattle.edifact_text.specs.declared.faults.EdiCode.{EdiCode}
use Rattle.edifact_text.specs.declared.faults.EdiCode.TheVariants.{NoUnb, Groups, NoUnh, WrongType, EmptySegment, TooManyElements, SegmentCount, MessageRef, SeveralMessages, InterchangeCount, InterchangeRef}
use Rattle.edifact_text.specs.declared.faults.Kind.{Kind}
use Rattle.edifact_text.specs.declared.service.Service.{Service}
use Rattle.edifact_text.specs.Interchange.{Parts, component}
use Rattle.edifact_text.specs.Rows.{is_text, Rows, first_of, row_of, ends_with, is_tag}
use Rattle.edifact_text.specs.Reading.{as_result, row, ◌>>=◌, Stretch, segment_of, element_of}
use Rattle.edifact_text.specs.Stages.{part, whole, unb_rows, unh_rows, unt_rows, unz_rows, has_tag, is_long}
use lib.Pointwise.{bytes_decides}
use Rattle.edifact_text.proofs.ReadingLemmas.{part_is}

-- checks one after the other are the first row that applies
row_first : (b : Bool) (code : EdiCode) (place : ℕ) (more : Rows) →
    (row b code place >>= λ _. as_result (first_of more) place) ≡ as_result (first_of ((b, code) ∷ more)) place
row_first true code place more = refl
row_first false code place more = refl

unh_all : (a b c d e : Bool) (place : ℕ) →
    ((row a EmptySegment place >>= λ _. row b TooManyElements place) >>= λ _. row c Groups place >>= λ _. row d NoUnh place >>= λ _. row e WrongType place)
    ≡ as_result (first_of ((a, EmptySegment) ∷ (b, TooManyElements) ∷ (c, Groups) ∷ (d, NoUnh) ∷ (e, WrongType) ∷ [])) place
unh_all true b c d e place = refl
unh_all false true c d e place = refl
unh_all false false true d e place = refl
unh_all false false false true e place = refl
unh_all false false false false true place = refl
unh_all false false false false false place = refl

text_is : (sv : Service) (bytes : List ℕ) (i j : ℕ) (t : List ℕ) → is_text (part sv bytes i j) t ≡ is_text (component (segment_of sv bytes) i j) t
text_is sv bytes i j t = ap (λ xs. is_text xs t) (part_is sv bytes i j)

long_is : (sv : Service) (es : List (List ℕ)) →
    list_any (is_long sv) es ≡ list_any (λ (e : List (List ℕ)). nat_lt 64 (length e)) (map (element_of sv) es)
long_is sv [] = refl
long_is sv (e ∷ es) = rw (length-map, long_is sv es) refl

-- The second segment, as the code checks it, and as the table has it.
pub unh_table : (kind : Kind) (sv : Service) (unb : Parts) (s : Stretch) →
    (whole sv s >>= λ _. unh_rows kind sv s) ≡ as_result (row_of kind (unb ∷ []) (segment_of sv s.bytes)) s.place
unfolding segment_of
unh_table kind sv unb s =
    simp (text_is, long_is, length-map) (unh_all _ _ _ _ _ s.place)

unb_all : (a b c : Bool) (place : ℕ) →
    ((row a EmptySegment place >>= λ _. row b TooManyElements place) >>= λ _. row c NoUnb place)
    ≡ as_result (first_of ((a, EmptySegment) ∷ (b, TooManyElements) ∷ (c, NoUnb) ∷ [])) place
unb_all true b c place = refl
unb_all false true c place = refl
unb_all false false true place = refl
unb_all false false false place = refl

pub unb_table : (kind : Kind) (sv : Service) (s : Stretch) →
    (whole sv s >>= λ _. unb_rows sv s) ≡ as_result (row_of kind [] (segment_of sv s.bytes)) s.place
unfolding segment_of
unb_table kind sv s = simp (part_is, long_is, length-map) (unb_all _ _ _ s.place)

unz_all : (a b c d e f : Bool) (place : ℕ) →
    ((row a EmptySegment place >>= λ _. row b TooManyElements place) >>= λ _. row c Groups place >>= λ _. row d SeveralMessages place >>= λ _. row e InterchangeCount place >>= λ _. row f InterchangeRef place)
    ≡ as_result (first_of ((a, EmptySegment) ∷ (b, TooManyElements) ∷ (c, Groups) ∷ (d, SeveralMessages) ∷ (e, InterchangeCount) ∷
    (f, InterchangeRef) ∷ [])) place
unz_all true b c d e f place = refl
unz_all false true c d e f place = refl
unz_all false false true d e f place = refl
unz_all false false false true e f place = refl
unz_all false false false false true f place = refl
unz_all false false false false false true place = refl
unz_all false false false false false false place = refl

-- The segment behind the message trailer.
pub unz_table : (kind : Kind) (sv : Service) (unb : Stretch) (unh : Parts) (body : List Parts) (s : Stretch) → ends_with (codes "UNT") body ≡ true →
    (whole sv s >>= λ _. unz_rows sv unb s) ≡ as_result (row_of kind (segment_of sv unb.bytes ∷ unh ∷ body) (segment_of sv s.bytes)) s.place
unfolding segment_of
unz_table kind sv unb unh body s h = simp (part_is, long_is, length-map, h) (unz_all _ _ _ _ _ _ s.place)

pub is_the_text : (xs ys : List ℕ) → is_text xs ys ≡ true → xs ≡ ys
unfolding is_text
is_the_text xs ys h = (bytes_decides xs ys).0 h

no_unz : (tag : List ℕ) → is_text tag (codes "UNT") ≡ true → is_text tag (codes "UNZ") ≡ false
unfolding is_text
no_unz tag h = ap (λ xs. is_text xs (codes "UNZ")) (is_the_text tag (codes "UNT") h)

unt_all : (a b c d t z : Bool) (place : ℕ) → t ≡ true → z ≡ false →
    ((row a EmptySegment place >>= λ _. row b TooManyElements place) >>= λ _. row c SegmentCount place >>= λ _. row d MessageRef place)
    ≡ as_result (first_of ((a, EmptySegment) ∷ (b, TooManyElements) ∷ (t && c, SegmentCount) ∷ (t && d, MessageRef) ∷ (z, SegmentCount) ∷ [])) place
unt_all true b c d t z place h k = refl
unt_all false true c d t z place h k = refl
unt_all false false true d t z place h k = rw h refl
unt_all false false false true t z place h k = rw h refl
unt_all false false false false t z place h k = rw (h, k) refl

-- The message trailer.
pub unt_table : (kind : Kind) (sv : Service) (unb : Parts) (unh : Stretch) (body : List Parts) (s : Stretch) → ends_with (codes "UNT") body ≡ false →
    is_tag (segment_of sv s.bytes) (codes "UNT") ≡ true →
    (whole sv s >>= λ _. unt_rows sv unh s (length body + 2)) ≡ as_result (row_of kind (unb ∷ segment_of sv unh.bytes ∷ body)
    (segment_of sv s.bytes)) s.place
unfolding segment_of
unt_table kind sv unb unh body s h k =
    simp (part_is, long_is, length-map, h) (unt_all _ _ _ _ _ _ s.place k (no_unz (component (segment_of sv s.bytes) 0 0) k))

inside_all : (a b c d t z : Bool) (place : ℕ) → t ≡ false →
    ((row a EmptySegment place >>= λ _. row b TooManyElements place) >>= λ _. row z SegmentCount place)
    ≡ as_result (first_of ((a, EmptySegment) ∷ (b, TooManyElements) ∷ (t && c, SegmentCount) ∷ (t && d, MessageRef) ∷ (z, SegmentCount) ∷ [])) place
inside_all true b c d t z place h = refl
inside_all false true c d t z place h = refl
inside_all false false c d t true place h = rw h refl
inside_all false false c d t false place h = rw h refl

-- Any other segment of a message.
pub inside_table : (kind : Kind) (sv : Service) (unb unh : Parts) (body : List Parts) (s : Stretch) → ends_with (codes "UNT") body ≡ false →
    is_tag (segment_of sv s.bytes) (codes "UNT") ≡ false →
    (whole sv s >>= λ _. row (has_tag sv s (codes "UNZ")) SegmentCount s.place) ≡ as_result (row_of kind (unb ∷ unh ∷ body)
    (segment_of sv s.bytes)) s.place
unfolding segment_of
inside_table kind sv unb unh body s h k =
    simp (part_is, long_is, length-map, h) (inside_all _ _ _ _ _ _ s.place k)
