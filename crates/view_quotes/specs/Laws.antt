-- The number by which a fault, or a report, names a segment of a message.
use Rattle.std.specs.Prelude.{◌≡◌, ℕ, ◌-◌, List, length, Some, Ok, slice_get}
use Rattle.edifact_text.specs.declared.faults.Kind.{Kind}
use Rattle.edifact_text.specs.Interchange.{Numbered, Opened}
use Rattle.edifact_text.specs.Places.{placed_in}
use Rattle.edifact_text.specs.Reading.{Start, Stretch, opened, segment_of, start_of, trimmed}

-- the parts of a segment are those of the bytes that are quoted for its number
abbrev pub IsQuoted : List ℕ → Numbered → Type 0
IsQuoted text segment =
    (start : Start) × (stretch : Stretch)
    × (start_of (length text) (length text - length (trimmed text)) (trimmed text) ≡ Ok start)
    × (slice_get (placed_in text) segment.number ≡ Some stretch)
    × (segment.parts ≡ segment_of start.service stretch.bytes)

abbrev pub SegmentsAreNumbered : Type 0
SegmentsAreNumbered = (kind : Kind) (text : List ℕ) (message : Opened) (i : ℕ) (segment : Numbered)
    → opened kind text ≡ Ok message → slice_get message.segments i ≡ Some segment
    → IsQuoted text segment
