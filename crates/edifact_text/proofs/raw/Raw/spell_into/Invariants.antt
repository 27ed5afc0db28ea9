use Rattle.std.proofs.Common.{◌≡◌, ◌++◌, ◌≤◌, length}
use Rattle.edifact_text.specs.Views.{meaning_of}
use Rattle.edifact_text.proofs.raw.Raw.spell_into.Given as goal

abbrev pub invariant-loop-byte : goal.invariant-loop-byte
invariant-loop-byte g l = record { so_far : meaning_of l.self ≡ l.out.items ++ meaning_of l.left; room : length l.out.items ≤ g.row.MOST }

abbrev pub decreases-loop-byte : goal.decreases-loop-byte
decreases-loop-byte g l = length l.left.bytes.now
