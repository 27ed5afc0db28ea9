-- How segments are spelt (ISO 9735): the relation between bytes and what they mean.
use Rattle.std.specs.Prelude.{◌≡◌, ◌⊎◌, ℕ, ◌+◌, List, [], ◌∷◌, ◌++◌, length, Some, Bool, true}
use Rattle.std.specs.Prelude.{false, ◌||◌, ◌==◌}
use Rattle.std.specs.List.{list_all}
use Rattle.edifact_text.specs.declared.service.Service.{Service}
use Rattle.edifact_text.specs.Characters.{is_blank, is_release}
use Rattle.edifact_text.specs.Interchange.{Parts, Placed}

-- The byte is a service character of the text: it separates, ends or releases.
abbrev pub is_service : Service → ℕ → Bool
is_service sv b =
    is_release sv.release b || b == sv.component || b == sv.element || b == sv.terminator

-- A byte of a literal is spelt as it is, unless it is a service character, or behind a release
-- character.
abbrev pub IsSpelt : Service → ℕ → List ℕ → Type 0
IsSpelt sv b bytes =
    ((is_service sv b ≡ false) × (bytes ≡ b ∷ []))
    ⊎ ((r : ℕ) × (sv.release ≡ Some r) × (bytes ≡ r ∷ b ∷ []))

-- A literal is spelt byte by byte.
abbrev pub Literal : Service → List ℕ → List ℕ → Type 0
Literal sv [] bytes = bytes ≡ []
Literal sv (b ∷ more) bytes = (front : List ℕ) × (rest : List ℕ) × (bytes ≡ front ++ rest)
    × IsSpelt sv b front × Literal sv more rest

-- Parts, at least one, with a separator between any two.
abbrev pub Joined : {X : Type 0} → (X → List ℕ → Type 0) → ℕ → List X → List ℕ → Type 0
Joined P separator [] bytes = ⊥
Joined P separator (x ∷ []) bytes = P x bytes
Joined P separator (x ∷ y ∷ more) bytes =
    (front : List ℕ) × (rest : List ℕ) × (bytes ≡ front ++ separator ∷ rest) × P x front
    × Joined P separator (y ∷ more) rest

-- The components of an element, and the elements of a segment.
abbrev pub Element : Service → List (List ℕ) → List ℕ → Type 0
Element sv = Joined (Literal sv) sv.component

abbrev pub Segment : Service → Parts → List ℕ → Type 0
Segment sv = Joined (Element sv) sv.element

abbrev pub AreBlanks : List ℕ → Type 0
AreBlanks bytes = list_all is_blank bytes ≡ true

abbrev pub begins_blank : List ℕ → Bool
begins_blank [] = false
begins_blank (b ∷ bs) = is_blank b

-- A segment's bytes, the terminator, and what is behind it.
abbrev pub terminated : Service → List ℕ → List ℕ → List ℕ
terminated sv bytes behind = bytes ++ sv.terminator ∷ behind

-- These segments are one behind the other from the place `at` to the place `end`: each has blanks
-- before it, any number of them, doesn't begin with a blank itself, and ends with the terminator.
-- The rest of the bytes is behind them.
abbrev pub Segments : Service → ℕ → List Placed → List ℕ → ℕ → List ℕ → Type 0
Segments sv at [] bytes end rest = (at ≡ end) × (bytes ≡ rest)
Segments sv at (s ∷ more) bytes end rest =
    (blanks : List ℕ) × (text : List ℕ) × (behind : List ℕ)
    × (bytes ≡ blanks ++ text ++ sv.terminator ∷ behind)
    × AreBlanks blanks × (begins_blank text ≡ false) × Segment sv s.parts text
    × (s.place ≡ at + length blanks)
    × Segments sv (at + length blanks + length text + 1) more behind end rest

-- No two of the service characters are one.
pub record Apart (sv : Service) : Type 0 where
  pub component : is_release sv.release sv.component ≡ false
  pub element : is_release sv.release sv.element ≡ false
  pub terminator : is_release sv.release sv.terminator ≡ false
  pub component_element : (sv.component == sv.element) ≡ false
  pub component_terminator : (sv.component == sv.terminator) ≡ false
  pub element_terminator : (sv.element == sv.terminator) ≡ false
