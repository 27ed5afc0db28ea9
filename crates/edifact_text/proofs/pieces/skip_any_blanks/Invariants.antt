use Rattle.std.proofs.Common.{◌≡◌, drop}
use Rattle.edifact_text.specs.Reading.{trimmed}
use Rattle.edifact_text.proofs.pieces.skip_any_blanks.Given as goal

abbrev pub invariant-loop-at : goal.invariant-loop-at
invariant-loop-at l = trimmed (drop l.at l.bytes) ≡ trimmed l.bytes
