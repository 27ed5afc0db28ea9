use Rattle.std.proofs.Common.{◌≡◌, length}
use Rattle.edifact_text.specs.Rows.{is_one}
use Rattle.edifact_text.specs.Views.{meaning_of}
use Rattle.edifact_text.proofs.numbers.is_one.Given as goal

abbrev pub invariant-loop-byte : goal.invariant-loop-byte
invariant-loop-byte l = is_one (meaning_of l.left) ≡ is_one (meaning_of l.raw)

abbrev pub decreases-loop-byte : goal.decreases-loop-byte
decreases-loop-byte l = length l.left.bytes.now
