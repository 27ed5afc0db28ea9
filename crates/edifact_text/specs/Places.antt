-- The segments of a text at their places, whatever faults the message has.
use Rattle.std.specs.Prelude.{ℕ, ◌-◌, List, [], length, Option, Some, None, Result, Ok, Err}
use Rattle.edifact_text.specs.declared.cursor.Cursor.{Cursor}
use Rattle.edifact_text.specs.declared.faults.EdiFault.{EdiFault}
use Rattle.edifact_text.specs.declared.places.PlacedSegment.{PlacedSegment}
use Rattle.edifact_text.specs.declared.places.PlacedSegments.{PlacedSegments}
use Rattle.edifact_text.specs.Reading.{Start, Stretch, cut_text, start_of, stretches, trimmed}
use Rattle.edifact_text.specs.Views.{ahead, stretch_of}

abbrev pub placed_by : List ℕ → Result Start EdiFault → List Stretch
placed_by text (Ok start) =
    stretches (length text - length start.bytes) (cut_text start.service start.bytes)
placed_by text (Err fault) = []

-- All segments of a text, headers and trailers among them, and behind them what has no terminator.
-- There are none where the service string advice is cut off or can't serve.
unfoldable pub placed_in : List ℕ → List Stretch
placed_in text =
    placed_by text (start_of (length text) (length text - length (trimmed text)) (trimmed text))

-- a segment's place and bytes, and those of the segments that are left
abbrev pub placed_view : PlacedSegment → Stretch
placed_view segment = stretch_of segment.text

abbrev pub ahead_of : Option Cursor → List Stretch
ahead_of None = []
ahead_of (Some cursor) = ahead cursor

unfoldable pub placed_left : PlacedSegments → List Stretch
placed_left segments = ahead_of segments.left
