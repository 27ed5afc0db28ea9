-- An interchange as it is read, from left to right: its message, or its first fault.
use Rattle.std.specs.Prelude.{ℕ, ◌+◌, ◌-◌, List, [], ◌∷◌, ◌++◌, length, take, map, Option, Some}
use Rattle.std.specs.Prelude.{None}
use Rattle.std.specs.Prelude.{Result, Ok, Err, Bool, true, false, nat_lt, ◌==◌, ◌&&◌, if◌then◌else◌}
use Rattle.std.specs.Prelude.{⊤}
use Rattle.edifact_text.specs.declared.faults.EdiFault.{EdiFault}
use Rattle.edifact_text.specs.declared.faults.EdiCode.{EdiCode}
use Rattle.edifact_text.specs.declared.faults.EdiCode.TheVariants.{Truncated, BadUna, Trailing}
use Rattle.edifact_text.specs.declared.faults.Kind.{Kind}
use Rattle.edifact_text.specs.declared.service.Service.{Service}
use Rattle.edifact_text.specs.Interchange.{Parts, Opened, numbered}
use Rattle.edifact_text.specs.Characters.{is_blank, default_service, release_of, is_bad_service}
use Rattle.edifact_text.specs.Pieces.{pieces, literal}
use Rattle.edifact_text.specs.Rows.{row_of, is_closed}

infixl 10 ◌>>=◌
abbrev pub ◌>>=◌ : {A B : Type 0} → Result A EdiFault → (A → Result B EdiFault) → Result B EdiFault
(Ok x) >>= f = f x
(Err e) >>= f = Err e

abbrev pub fault : {A : Type 0} → EdiCode → ℕ → Result A EdiFault
fault code place = Err (record { code = code; place = place })

-- The fault, where the test is true.
abbrev pub row : Bool → EdiCode → ℕ → Result ⊤ EdiFault
row true code place = fault code place
row false code place = Ok tt

-- The fault, where there is one.
abbrev pub as_result : Option EdiCode → ℕ → Result ⊤ EdiFault
as_result None place = Ok tt
as_result (Some code) place = fault code place

-- The text behind the blanks.
abbrev pub trimmed : List ℕ → List ℕ
trimmed [] = []
trimmed (b ∷ bs) = if is_blank b then trimmed bs else b ∷ bs

-- The parts of a segment: the literals of the pieces of its pieces.
abbrev pub element_of : Service → List ℕ → List (List ℕ)
element_of sv bytes = map (literal sv.release) (pieces sv.release sv.component bytes)

unfoldable pub segment_of : Service → List ℕ → Parts
segment_of sv bytes = map (element_of sv) (pieces sv.release sv.element bytes)

-- A text, cut at its terminators.
abbrev pub cut_text : Service → List ℕ → List (List ℕ)
cut_text sv bytes = pieces sv.release sv.terminator bytes

-- A segment's bytes without its terminator, and how many bytes of the text are before them.
pub record Stretch : Type 0 where
  pub place : ℕ
  pub bytes : List ℕ

-- The pieces, the first of which begins at this place, each without the blanks before it.
abbrev pub stretches : ℕ → List (List ℕ) → List Stretch
stretches at [] = []
stretches at (piece ∷ more) =
    record {
      place = at + (length piece - length (trimmed piece));
      bytes = trimmed piece;
    } ∷ stretches (at + length piece + 1) more

-- All the segments, headers and trailers too, judged one by one behind those before. The last
-- stretch has no terminator.
abbrev pub judged : Kind → Service → ℕ → List Parts → List Stretch → Result (List Parts) EdiFault
judged kind sv len before [] = if is_closed before then Ok before else fault Truncated len
judged kind sv len before (s ∷ []) =
    if is_closed before then (row (nat_lt 0 (length s.bytes)) Trailing s.place >>= λ _. Ok before)
    else fault Truncated len
judged kind sv len before (s ∷ t ∷ more) =
    if is_closed before then fault Trailing s.place
    else (as_result (row_of kind before (segment_of sv s.bytes)) s.place
    >>= λ _. judged kind sv len (before ++ segment_of sv s.bytes ∷ []) (t ∷ more))

-- The segments between the two headers and the two trailers.
abbrev pub inner : List Parts → List Parts
inner [] = []
inner (unb ∷ []) = []
inner (unb ∷ unh ∷ rest) = take (length rest - 2) rest

-- The service characters, and the bytes behind them.
pub record Start : Type 0 where
  pub service : Service
  pub bytes : List ℕ

abbrev pub advised : ℕ → ℕ → List ℕ → Result Start EdiFault
advised len place (component ∷ element ∷ mark ∷ release ∷ reserved ∷ terminator ∷ rest) =
    let sv : Service =
    record {
      component = component;
      element = element;
      mark = mark;
      release = release_of release;
      terminator = terminator;
    } in
    if is_bad_service sv then fault BadUna place else Ok (record { service = sv; bytes = rest })
advised len place bytes = fault Truncated len

abbrev pub unadvised : List ℕ → Result Start EdiFault
unadvised bytes = Ok (record { service = default_service; bytes = bytes })

-- The service string advice, UNA and six characters, or none.
abbrev pub start_of : ℕ → ℕ → List ℕ → Result Start EdiFault
start_of len place (a ∷ b ∷ c ∷ rest) =
    if a == 85 && (b == 78 && c == 65) then advised len place rest else unadvised (a ∷ b ∷ c ∷ rest)
start_of len place bytes = unadvised bytes

-- The message that the text is read as, or the fault.
unfoldable pub opened : Kind → List ℕ → Result Opened EdiFault
opened kind text = do
  start ← start_of (length text) (length text - length (trimmed text)) (trimmed text)
  all ← judged kind start.service (length text) []
      (stretches (length text - length start.bytes) (cut_text start.service start.bytes))
  Ok (record { mark = start.service.mark; segments = numbered 2 (inner all) })
