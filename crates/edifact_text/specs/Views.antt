-- Bookkeeping: the code's values, as contracts see them.
use Rattle.std.specs.Prelude.{ℕ, ◌-◌, List, [], ◌∷◌, length, take, Option, Some, None, Bool, false}
use Rattle.std.specs.Prelude.{◌==◌, ◌||◌, ◌&&◌, nat_le, not, slice_index_or}
use Rattle.edifact_text.specs.declared.raw.Raw.{Raw}
use Rattle.edifact_text.specs.declared.segment_text.SegmentText.{SegmentText}
use Rattle.edifact_text.specs.declared.cursor.Cursor.{Cursor}
use Rattle.edifact_text.specs.declared.message.Message.{Message}
use Rattle.edifact_text.specs.declared.message.Segment.{Segment}
use Rattle.edifact_text.specs.declared.message.Segments.{Segments}
use Rattle.edifact_text.specs.declared.service.Ends.{Ends}
use Rattle.edifact_text.specs.declared.service.Service.{Service}
use Rattle.edifact_text.specs.declared.tag.Tag.{Tag}
use Rattle.edifact_text.specs.Interchange.{Numbered, numbered, Opened}
use Rattle.edifact_text.specs.Pieces.{pieces, literal}
use Rattle.edifact_text.specs.Reading.{Stretch, stretches, segment_of}
use Rattle.edifact_text.specs.Stages.{ended_ones, message_parts}

-- The bytes up to the first separator that cuts.
abbrev pub front : Option ℕ → ℕ → List ℕ → List ℕ
front release separator bytes = slice_index_or (pieces release separator bytes) 0 []

-- The bytes of a component that ends with these bytes, or at one of these separators.
abbrev pub up_to : Option ℕ → Option Ends → List ℕ → List ℕ
up_to release None bytes = bytes
up_to release (Some ends) bytes = front release ends.component (front release ends.element bytes)

-- Component j of the element with which some bytes begin.
abbrev pub leading_component : Service → ℕ → List ℕ → List ℕ
leading_component sv j bytes =
    slice_index_or (pieces sv.release sv.component (front sv.release sv.element bytes)) j []

-- The literal of the component with which some bytes begin.
abbrev pub leading_literal : Service → List ℕ → List ℕ
leading_literal sv bytes = literal sv.release (leading_component sv 0 bytes)

-- The byte is one of the separators.
abbrev pub is_end : Option Ends → ℕ → Bool
is_end None byte = false
is_end (Some ends) byte = byte == ends.element || byte == ends.component

-- The literal that some bytes of a segment mean.
unfoldable pub meaning_of : Raw → List ℕ
meaning_of raw = literal raw.release (up_to raw.release raw.ends raw.bytes.now)

abbrev pub stretch_of : SegmentText → Stretch
stretch_of text = record { place = text.place; bytes = text.bytes.now }

-- The segments ahead: the pieces of what is left of the text, the last of which has no terminator.
abbrev pub ahead : Cursor → List Stretch
ahead c = stretches (c.len - length c.rest.now)
    (pieces c.service.release c.service.terminator c.rest.now)

-- The byte is a capital letter: no interchange has one as a separator, as its terminator or as its
-- release character.
abbrev pub is_capital : ℕ → Bool
is_capital b = nat_le 65 b && nat_le b 90

-- The byte is a capital letter other than U, with which the trailers begin.
abbrev pub is_ordinary_letter : ℕ → Bool
is_ordinary_letter b = is_capital b && not (b == 85)

abbrev pub begins_ordinary : List ℕ → Bool
begins_ordinary [] = false
begins_ordinary (b ∷ bs) = is_ordinary_letter b

-- The letters of a tag.
abbrev pub letters_of : Tag → List ℕ
letters_of tag = tag.first ∷ tag.second ∷ tag.third ∷ []

-- A segment's number and parts.
unfoldable pub numbered_view : Segment → Numbered
numbered_view s = record { number = s.number; parts = segment_of s.service s.bytes.now }

-- The segments that are left.
unfoldable pub left_of : Segments → List Numbered
left_of s = numbered s.first
    (message_parts s.left.service (take s.count (ended_ones (ahead s.left))))

-- The decimal mark of the interchange, and the segments of the message.
unfoldable pub message_view : Message → Opened
message_view m = record {
  mark = m.behind.service.mark;
  segments = numbered 2
      (message_parts m.behind.service (take m.count (ended_ones (ahead m.behind))));
}
