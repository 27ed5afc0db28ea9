-- Bookkeeping: the reading stage by stage, as the functions of this crate share it out.
use Rattle.std.specs.Prelude.{◌≡◌, ℕ, ◌+◌, ◌-◌, List, [], ◌∷◌, length, take, map, Result}
use Rattle.std.specs.Prelude.{Ok, Err, Bool, false, nat_lt, ◌&&◌, ◌||◌, not, if◌then◌else◌, codes}
use Rattle.std.specs.Prelude.{⊤, slice_index_or}
use Rattle.std.specs.List.{list_any}
use Rattle.edifact_text.specs.declared.faults.EdiFault.{EdiFault}
use Rattle.edifact_text.specs.declared.faults.EdiCode.TheVariants.{Truncated, NoUnb, Groups, NoUnh}
use Rattle.edifact_text.specs.declared.faults.EdiCode.TheVariants.{WrongType, SegmentCount}
use Rattle.edifact_text.specs.declared.faults.EdiCode.TheVariants.{MessageRef}
use Rattle.edifact_text.specs.declared.faults.EdiCode.TheVariants.{SeveralMessages}
use Rattle.edifact_text.specs.declared.faults.EdiCode.TheVariants.{InterchangeCount, InterchangeRef}
use Rattle.edifact_text.specs.declared.faults.EdiCode.TheVariants.{Trailing, EmptySegment}
use Rattle.edifact_text.specs.declared.faults.EdiCode.TheVariants.{TooManyElements}
use Rattle.edifact_text.specs.declared.faults.Kind.{Kind}
use Rattle.edifact_text.specs.declared.service.Service.{Service}
use Rattle.edifact_text.specs.Interchange.{Parts, Opened, numbered}
use Rattle.edifact_text.specs.Pieces.{pieces, literal}
use Rattle.edifact_text.specs.Rows.{is_text, type_name, count_of, is_number, is_one}
use Rattle.edifact_text.specs.Reading.{◌>>=◌, fault, row, trimmed, segment_of, Stretch, stretches}
use Rattle.edifact_text.specs.Reading.{start_of, cut_text}

-- The bytes of an element, and of a component; empty where its number is past the last.
abbrev pub element_bytes : Service → List ℕ → ℕ → List ℕ
element_bytes sv segment i = slice_index_or (pieces sv.release sv.element segment) i []

abbrev pub component_bytes : Service → List ℕ → ℕ → ℕ → List ℕ
component_bytes sv segment i j =
    slice_index_or (pieces sv.release sv.component (element_bytes sv segment i)) j []

-- The literal of component j of element i.
unfoldable pub part : Service → List ℕ → ℕ → ℕ → List ℕ
part sv segment i j = literal sv.release (component_bytes sv segment i j)

-- An element of over 64 components.
abbrev pub is_long : Service → List ℕ → Bool
is_long sv element = nat_lt 64 (length (pieces sv.release sv.component element))

-- Over 64 elements, or over 64 components in one.
abbrev pub is_too_large : Service → List ℕ → Bool
is_too_large sv segment =
    nat_lt 64 (length (pieces sv.release sv.element segment))
    || list_any (is_long sv) (pieces sv.release sv.element segment)

abbrev pub has_tag : Service → Stretch → List ℕ → Bool
has_tag sv s tag = is_text (part sv s.bytes 0 0) tag

-- What holds of each segment.
abbrev pub whole : Service → Stretch → Result ⊤ EdiFault
whole sv s = do
  _ ← row (is_text (part sv s.bytes 0 0) []) EmptySegment s.place
  row (is_too_large sv s.bytes) TooManyElements s.place

-- It has none of the faults of any segment, and is no trailer.
abbrev pub IsOrdinary : Service → Stretch → Type 0
IsOrdinary sv s = (whole sv s ≡ Ok tt) × (has_tag sv s (codes "UNT") ≡ false)
    × (has_tag sv s (codes "UNZ") ≡ false)

-- The next segment, and what is behind it. The last piece has no terminator.
abbrev pub next_of : Service → ℕ → List Stretch → Result (Stretch × List Stretch) EdiFault
next_of sv len [] = fault Truncated len
next_of sv len (s ∷ []) = fault Truncated len
next_of sv len (s ∷ t ∷ more) = do
  _ ← whole sv s
  Ok (s, t ∷ more)

-- The interchange header.
abbrev pub unb_rows : Service → Stretch → Result ⊤ EdiFault
unb_rows sv s = row (not (has_tag sv s (codes "UNB"))) NoUnb s.place

abbrev pub is_of_type : Kind → Service → Stretch → Bool
is_of_type kind sv s =
    is_text (part sv s.bytes 2 0) (type_name kind) && (is_text (part sv s.bytes 2 1) (codes "D")
    && (is_text (part sv s.bytes 2 2) (codes "95B") && is_text (part sv s.bytes 2 3) (codes "UN")))

-- The message header.
abbrev pub unh_rows : Kind → Service → Stretch → Result ⊤ EdiFault
unh_rows kind sv s = do
  _ ← row (has_tag sv s (codes "UNG")) Groups s.place
  _ ← row (not (has_tag sv s (codes "UNH"))) NoUnh s.place
  row (not (is_of_type kind sv s)) WrongType s.place

-- The message trailer, its number in the message, and what is behind it.
pub record Ended : Type 0 where
  pub trailer : Stretch
  pub number : ℕ
  pub behind : List Stretch

-- The segments of a message, the first of which has this number, up to its trailer.
abbrev pub trailer_of : Service → ℕ → ℕ → List Stretch → Result Ended EdiFault
trailer_of sv len number [] = fault Truncated len
trailer_of sv len number (s ∷ []) = fault Truncated len
trailer_of sv len number (s ∷ t ∷ more) = do
  _ ← whole sv s
  if has_tag sv s (codes "UNT") then Ok (record { trailer = s; number = number; behind = t ∷ more })
      else if has_tag sv s (codes "UNZ") then fault SegmentCount s.place
      else trailer_of sv len (number + 1) (t ∷ more)

abbrev pub unt_rows : Service → Stretch → Stretch → ℕ → Result ⊤ EdiFault
unt_rows sv unh s number = do
  _ ← row (not (is_number (count_of (part sv s.bytes 1 0)) number)) SegmentCount s.place
  row (not (is_text (part sv s.bytes 2 0) (part sv unh.bytes 1 0))) MessageRef s.place

-- The interchange trailer.
abbrev pub unz_rows : Service → Stretch → Stretch → Result ⊤ EdiFault
unz_rows sv unb s = do
  _ ← row (has_tag sv s (codes "UNG") || has_tag sv s (codes "UNE")) Groups s.place
  _ ← row (not (has_tag sv s (codes "UNZ"))) SeveralMessages s.place
  _ ← row (not (is_one (part sv s.bytes 1 0))) InterchangeCount s.place
  row (not (is_text (part sv s.bytes 2 0) (part sv unb.bytes 5 0))) InterchangeRef s.place

-- Only blanks follow the interchange.
abbrev pub end_rows : List Stretch → Result ⊤ EdiFault
end_rows [] = Ok tt
end_rows (s ∷ []) = row (nat_lt 0 (length s.bytes)) Trailing s.place
end_rows (s ∷ t ∷ more) = fault Trailing s.place

-- Both headers, and what is behind them.
pub record Headers : Type 0 where
  pub unb : Stretch
  pub unh : Stretch
  pub behind : List Stretch

unfoldable pub headers_of : Kind → Service → ℕ → List Stretch → Result Headers EdiFault
headers_of kind sv len ps = do
  unb ← next_of sv len ps
  _ ← unb_rows sv unb.0
  unh ← next_of sv len unb.1
  _ ← unh_rows kind sv unh.0
  Ok (record { unb = unb.0; unh = unh.0; behind = unh.1 })

-- The interchange trailer, and the end of the text.
unfoldable pub ends_of : Service → ℕ → Stretch → List Stretch → Result ⊤ EdiFault
ends_of sv len unb ps = do
  unz ← next_of sv len ps
  _ ← unz_rows sv unb unz.0
  end_rows unz.1

-- The segments that have a terminator: all but the last piece.
abbrev pub ended_ones : List Stretch → List Stretch
ended_ones [] = []
ended_ones (s ∷ []) = []
ended_ones (s ∷ t ∷ more) = s ∷ ended_ones (t ∷ more)

-- The segments of the message, between its header and its trailer.
unfoldable pub message_of : Kind → Service → ℕ → List Stretch → Result (List Stretch) EdiFault
message_of kind sv len ps = do
  headers ← headers_of kind sv len ps
  ended ← trailer_of sv len 2 headers.behind
  _ ← unt_rows sv headers.unh ended.trailer ended.number
  _ ← ends_of sv len headers.unb ended.behind
  Ok (take (ended.number - 2) (ended_ones headers.behind))

-- The segments in a row, as a message gives them.
abbrev pub message_parts : Service → List Stretch → List Parts
message_parts sv segments = map (λ s. segment_of sv s.bytes) segments

-- The whole text.
unfoldable pub staged : Kind → List ℕ → Result Opened EdiFault
staged kind text = do
  start ← start_of (length text) (length text - length (trimmed text)) (trimmed text)
  segments ← message_of kind start.service (length text)
      (stretches (length text - length start.bytes) (cut_text start.service start.bytes))
  Ok (record {
    mark = start.service.mark;
    segments = numbered 2 (message_parts start.service segments);
  })

-- What a function returned, seen by view, is what reading gives.
abbrev pub Gives : {X Y : Type 0} → (X → Y) → Result X EdiFault → Result Y EdiFault → Type 0
Gives view (Ok x) read = read ≡ Ok (view x)
Gives view (Err e) read = read ≡ Err e
