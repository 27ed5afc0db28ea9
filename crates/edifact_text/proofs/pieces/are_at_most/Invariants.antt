use Rattle.std.proofs.Common.{◌≡◌, ◌+◌, length}
use Rattle.edifact_text.specs.Pieces.{pieces}
use Rattle.edifact_text.proofs.pieces.are_at_most.Given as goal

abbrev pub invariant-loop : goal.invariant-loop
invariant-loop l = l.counter + length (pieces l.release l.separator l.rest) ≡ length (pieces l.release l.separator l.bytes)
