use Rattle.std.proofs.Common.{◌≡◌, length}
use Rattle.std.specs.List.{list_any}
use Rattle.edifact_text.specs.Pieces.{pieces}
use Rattle.edifact_text.specs.Stages.{is_long}
use Rattle.edifact_text.proofs.segment_text.SegmentText.has_long_element.Given as goal

abbrev pub invariant-elements : goal.invariant-elements
invariant-elements l = list_any (is_long l.service) (pieces l.service.release l.service.element l.rest) ≡ list_any (is_long l.service)
    (pieces l.service.release l.service.element l.self.bytes.now)

abbrev pub decreases-elements : goal.decreases-elements
decreases-elements l = length l.rest
