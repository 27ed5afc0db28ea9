use Rattle.std.proofs.Common.{◌≡◌, ◌↔◌, length}
use Rattle.edifact_text.specs.Views.{meaning_of}
use Rattle.edifact_text.proofs.raw.Raw.same.Given as goal

abbrev pub invariant-loop-a : goal.invariant-loop-a
invariant-loop-a l = (meaning_of l.self ≡ meaning_of l.other) ↔ (meaning_of l.left ≡ meaning_of l.right)

abbrev pub decreases-loop-a : goal.decreases-loop-a
decreases-loop-a l = length l.left.bytes.now
