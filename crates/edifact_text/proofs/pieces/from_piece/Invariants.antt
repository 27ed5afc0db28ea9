use Rattle.std.proofs.Common.{◌≡◌, ◌-◌, get_or, []}
use Rattle.edifact_text.specs.Pieces.{pieces}
use Rattle.edifact_text.proofs.pieces.from_piece.Given as goal

abbrev pub invariant-loop : goal.invariant-loop
invariant-loop l = get_or (pieces l.release l.separator l.rest) (l.index - l.counter) [] ≡ get_or (pieces l.release l.separator l.bytes) l.index []
