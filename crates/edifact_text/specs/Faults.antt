-- What a text is: a message, or a text with this fault.
use Rattle.std.specs.Prelude.{◌≡◌, ◌≢◌, ◌⊎◌, ℕ, ◌+◌, ◌<◌, List, [], ◌∷◌, ◌++◌, length, map, Some}
use Rattle.std.specs.Prelude.{None, true, false, codes}
use Rattle.edifact_text.specs.declared.faults.EdiFault.{EdiFault}
use Rattle.edifact_text.specs.declared.faults.EdiCode.TheVariants.{Truncated, BadUna, Trailing}
use Rattle.edifact_text.specs.declared.faults.Kind.{Kind}
use Rattle.edifact_text.specs.declared.service.Service.{Service}
use Rattle.edifact_text.specs.Interchange.{Parts, Placed, numbered, Numbered}
use Rattle.edifact_text.specs.Characters.{is_bad_service, release_of, default_service}
use Rattle.edifact_text.specs.Rows.{row_of, is_closed, is_tag}
use Rattle.edifact_text.specs.Spelling.{Segments, AreBlanks, begins_blank}

abbrev pub parts_of : List Placed → List Parts
parts_of = map (λ s. s.parts)

-- No row applies to any of the segments, and none is behind the interchange trailer.
abbrev pub AreClean : Kind → List Placed → Type 0
AreClean kind segments =
    (before : List Placed) (s : Placed) (behind : List Placed) → segments ≡ before ++ s ∷ behind →
    (is_closed (parts_of before) ≡ false) × (row_of kind (parts_of before) s.parts ≡ None)

-- UNA and its six characters, and then some bytes.
abbrev pub advice : Service → ℕ → ℕ → List ℕ → List ℕ
advice sv release reserved bytes =
    codes "UNA" ++ sv.component ∷ sv.element ∷ sv.mark ∷ release ∷ reserved ∷ sv.terminator ∷ bytes

-- Behind any blanks the text has a service string advice, which sets these characters, and then
-- these bytes from this place on. A release character of space means that there is none.
pub record IsAdvised (text : List ℕ) (sv : Service) (at : ℕ) (bytes : List ℕ) : Type 0 where
  pub blanks : List ℕ
  pub release : ℕ
  pub reserved : ℕ
  pub are_blanks : AreBlanks blanks
  pub text_is : text ≡ blanks ++ advice sv release reserved bytes
  pub release_is : sv.release ≡ release_of release
  pub at_is : at ≡ length blanks + 9

-- It has none, and these bytes behind the blanks. The service characters are the default ones.
pub record IsUnadvised (text : List ℕ) (sv : Service) (at : ℕ) (bytes : List ℕ) : Type 0 where
  pub blanks : List ℕ
  pub are_blanks : AreBlanks blanks
  pub text_is : text ≡ blanks ++ bytes
  pub no_blank : begins_blank bytes ≡ false
  pub no_advice : (more : List ℕ) → bytes ≢ codes "UNA" ++ more
  pub default : sv ≡ default_service
  pub at_is : at ≡ length blanks

-- The text's segments are spelt with these service characters, in these bytes from this place on.
abbrev pub Begins : List ℕ → Service → ℕ → List ℕ → Type 0
Begins text sv at bytes = (IsAdvised text sv at bytes × (is_bad_service sv ≡ false))
    ⊎ IsUnadvised text sv at bytes

-- The text is a message of the kind, with this decimal mark and these segments: the interchange's
-- header, the message's header, the segments, both trailers, and then nothing but blanks; and no
-- row applies.
pub record IsMessage (kind : Kind) (text : List ℕ) (mark : ℕ)
    (segments : List Numbered) : Type 0 where
  pub service : Service
  pub at : ℕ
  pub bytes : List ℕ
  pub begins : Begins text service at bytes
  pub unb : Placed
  pub unh : Placed
  pub body : List Placed
  pub unt : Placed
  pub unz : Placed
  pub end : ℕ
  pub rest : List ℕ
  pub spelt : Segments service at (unb ∷ unh ∷ body ++ unt ∷ unz ∷ []) bytes end rest
  pub blanks_behind : AreBlanks rest
  pub clean : AreClean kind (unb ∷ unh ∷ body ++ unt ∷ unz ∷ [])
  pub message_ends : is_tag unt.parts (codes "UNT") ≡ true
  pub interchange_ends : is_tag unz.parts (codes "UNZ") ≡ true
  pub mark_is : mark ≡ service.mark
  pub segments_are : segments ≡ numbered 2 (parts_of body)

-- The text ends within UNA: fewer than six characters follow.
pub record IsCutAdvice (text : List ℕ) (f : EdiFault) : Type 0 where
  pub blanks : List ℕ
  pub rest : List ℕ
  pub are_blanks : AreBlanks blanks
  pub text_is : text ≡ blanks ++ (codes "UNA" ++ rest)
  pub short : length rest < 6
  pub fault_is : f ≡ record { code = Truncated; place = length text }

-- UNA sets characters that can't serve. The place is that of UNA.
pub record IsBadAdvice (text : List ℕ) (f : EdiFault) : Type 0 where
  pub service : Service
  pub at : ℕ
  pub bytes : List ℕ
  pub advised : IsAdvised text service at bytes
  pub bad : is_bad_service service ≡ true
  pub code_is : f.code ≡ BadUna
  pub place_is : f.place + 9 ≡ at

-- A row applies to a segment, and none to those before it. The place is that of the segment's first
-- byte.
pub record IsRowFault (kind : Kind) (sv : Service) (at : ℕ) (bytes : List ℕ)
    (f : EdiFault) : Type 0 where
  pub before : List Placed
  pub segment : Placed
  pub end : ℕ
  pub rest : List ℕ
  pub spelt : Segments sv at (before ++ segment ∷ []) bytes end rest
  pub clean : AreClean kind before
  pub unclosed : is_closed (parts_of before) ≡ false
  pub row : row_of kind (parts_of before) segment.parts ≡ Some f.code
  pub place_is : f.place ≡ segment.place

-- The text ends before the interchange does: no row applies, and no further segment can be spelt.
-- The place is the text's length.
pub record IsCut (kind : Kind) (sv : Service) (len at : ℕ) (bytes : List ℕ)
    (f : EdiFault) : Type 0 where
  pub before : List Placed
  pub end : ℕ
  pub rest : List ℕ
  pub spelt : Segments sv at before bytes end rest
  pub clean : AreClean kind before
  pub unclosed : is_closed (parts_of before) ≡ false
  pub no_more : (s : Placed) (e : ℕ) (r : List ℕ) → Segments sv end (s ∷ []) rest e r → ⊥
  pub fault_is : f ≡ record { code = Truncated; place = len }

-- A byte that is no blank follows the interchange. The place is that of the first byte that is no
-- blank.
pub record IsTrailed (kind : Kind) (sv : Service) (at : ℕ) (bytes : List ℕ)
    (f : EdiFault) : Type 0 where
  pub before : List Placed
  pub end : ℕ
  pub blanks : List ℕ
  pub rest : List ℕ
  pub spelt : Segments sv at before bytes end (blanks ++ rest)
  pub clean : AreClean kind before
  pub closed : is_closed (parts_of before) ≡ true
  pub are_blanks : AreBlanks blanks
  pub some : rest ≢ []
  pub no_blank : begins_blank rest ≡ false
  pub fault_is : f ≡ record { code = Trailing; place = end + length blanks }

-- The segments of the text, in these bytes from this place on, have this fault.
abbrev pub AreFaulty : Kind → Service → ℕ → ℕ → List ℕ → EdiFault → Type 0
AreFaulty kind sv len at bytes f =
    IsRowFault kind sv at bytes f ⊎ (IsCut kind sv len at bytes f ⊎ IsTrailed kind sv at bytes f)

-- The fault of a text that is no message.
abbrev pub IsFault : Kind → List ℕ → EdiFault → Type 0
IsFault kind text f =
    IsCutAdvice text f ⊎ (IsBadAdvice text f
    ⊎ ((sv : Service) × (at : ℕ) × (bytes : List ℕ) × Begins text sv at bytes
    × AreFaulty kind sv (length text) at bytes f))
