-- The rows of the fault table: what is asked of a segment, by the segments that are before it.
use Rattle.std.specs.Prelude.{ℕ, ◌+◌, ◌-◌, ◌*◌, List, [], ◌∷◌, ◌++◌, length, Option, Some}
use Rattle.std.specs.Prelude.{None, Bool, false, nat_lt, nat_le, nat_eq, not, ◌&&◌, ◌||◌}
use Rattle.std.specs.Prelude.{if◌then◌else◌, codes}
use Rattle.std.specs.List.{list_any}
use lib.Pointwise.{pointwise}
use Rattle.edifact_text.specs.declared.faults.EdiCode.{EdiCode}
use Rattle.edifact_text.specs.declared.faults.EdiCode.TheVariants.{NoUnb, Groups, NoUnh, WrongType}
use Rattle.edifact_text.specs.declared.faults.EdiCode.TheVariants.{SegmentCount, MessageRef}
use Rattle.edifact_text.specs.declared.faults.EdiCode.TheVariants.{SeveralMessages}
use Rattle.edifact_text.specs.declared.faults.EdiCode.TheVariants.{InterchangeCount, InterchangeRef}
use Rattle.edifact_text.specs.declared.faults.EdiCode.TheVariants.{EmptySegment, TooManyElements}
use Rattle.edifact_text.specs.declared.faults.Kind.{Kind}
use Rattle.edifact_text.specs.declared.faults.Kind.TheVariants.{Baplie, Movins}
use Rattle.edifact_text.specs.Interchange.{Parts, component}

-- The two literals are equal.
unfoldable pub is_text : List ℕ → List ℕ → Bool
is_text xs ys = pointwise nat_eq xs ys

abbrev pub is_digit : ℕ → Bool
is_digit b = nat_le 48 b && nat_le b 57

-- The number that decimal digits write, behind those that write a value.
abbrev pub number_from : ℕ → List ℕ → Option ℕ
number_from value [] = Some value
number_from value (b ∷ bs) = if is_digit b then number_from (10 * value + (b - 48)) bs else None

-- The number that 1 to 10 digits write.
abbrev pub count_of : List ℕ → Option ℕ
count_of [] = None
count_of (b ∷ bs) = if nat_le (length bs) 9 then number_from 0 (b ∷ bs) else None

abbrev pub is_number : Option ℕ → ℕ → Bool
is_number None n = false
is_number (Some m) n = nat_eq m n

-- The number 1, behind any zeros.
abbrev pub is_one : List ℕ → Bool
is_one [] = false
is_one (b ∷ bs) = if nat_eq b 48 then is_one bs else is_text (b ∷ bs) (codes "1")

abbrev pub is_tag : Parts → List ℕ → Bool
is_tag s tag = is_text (component s 0 0) tag

abbrev pub type_name : Kind → List ℕ
type_name Baplie = codes "BAPLIE"
type_name Movins = codes "MOVINS"

-- Element 2 of the message header names the kind, in directory D.95B of the United Nations. What
-- follows is ignored.
abbrev pub is_of_type : Kind → Parts → Bool
is_of_type kind s =
    is_text (component s 2 0) (type_name kind) && (is_text (component s 2 1) (codes "D")
    && (is_text (component s 2 2) (codes "95B") && is_text (component s 2 3) (codes "UN")))

-- The last segment has this tag.
abbrev pub ends_with : List ℕ → List Parts → Bool
ends_with tag [] = false
ends_with tag (s ∷ []) = is_tag s tag
ends_with tag (s ∷ t ∷ more) = ends_with tag (t ∷ more)

-- Tests and their codes, in the order in which they are looked at.
abbrev pub Rows : Type 0
Rows = List (Bool × EdiCode)

-- The rows of any segment.
abbrev pub rows_of_all : Parts → Rows
rows_of_all s =
    (is_text (component s 0 0) [], EmptySegment)
    ∷ (nat_lt 64 (length s) || list_any (λ e. nat_lt 64 (length e)) s, TooManyElements)
    ∷ []

-- The rows of the interchange header, of the message header, of the segment behind the message
-- trailer, and of those up to it.
abbrev pub rows_behind : Kind → List Parts → Parts → Rows
rows_behind kind [] s = (not (is_tag s (codes "UNB")), NoUnb) ∷ []
rows_behind kind (unb ∷ []) s =
    (is_tag s (codes "UNG"), Groups)
    ∷ (not (is_tag s (codes "UNH")), NoUnh)
    ∷ (not (is_of_type kind s), WrongType)
    ∷ []
rows_behind kind (unb ∷ unh ∷ body) s =
    if ends_with (codes "UNT") body then
    (is_tag s (codes "UNG") || is_tag s (codes "UNE"), Groups)
    ∷ (not (is_tag s (codes "UNZ")), SeveralMessages)
    ∷ (not (is_one (component s 1 0)), InterchangeCount)
    ∷ (not (is_text (component s 2 0) (component unb 5 0)), InterchangeRef)
    ∷ []
    else (
      is_tag s (codes "UNT")
          && not (is_number (count_of (component s 1 0)) (length body + 2)),
      SegmentCount,
    )
    ∷ (is_tag s (codes "UNT") && not (is_text (component s 2 0) (component unh 1 0)), MessageRef)
    ∷ (is_tag s (codes "UNZ"), SegmentCount)
    ∷ []

-- The first row that applies.
abbrev pub first_of : Rows → Option EdiCode
first_of [] = None
first_of (row ∷ more) = if row.0 then Some row.1 else first_of more

-- The row that applies to a segment.
abbrev pub row_of : Kind → List Parts → Parts → Option EdiCode
row_of kind before s = first_of (rows_of_all s ++ rows_behind kind before s)

-- The interchange trailer has come.
abbrev pub is_closed : List Parts → Bool
is_closed before = ends_with (codes "UNZ") before
