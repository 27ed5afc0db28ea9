use Rattle.std.proofs.Common.{◌≡◌, slice_get}
use Rattle.edifact_text.specs.Places.{placed_in, placed_left}
use Rattle.edifact_text.proofs.places.segment_at.Given as goal

abbrev pub invariant-loop-segment : goal.invariant-loop-segment
invariant-loop-segment l =
    slice_get (placed_left l.segment-iterator) l.left
    ≡ slice_get (placed_in l.fn.bytes) l.fn.number
