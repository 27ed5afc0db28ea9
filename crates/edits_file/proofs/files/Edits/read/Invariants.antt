use Rattle.std.proofs.Common.{length}
use Rattle.edits_file.proofs.ReadingLemmas.{AreLookedAt}
use Rattle.edits_file.proofs.files.Edits.read.Given as goal

abbrev pub invariant-loop-rest : goal.invariant-loop-rest
invariant-loop-rest l = AreLookedAt l.bytes l.rest l.number

abbrev pub decreases-loop-rest : goal.decreases-loop-rest
decreases-loop-rest l = length l.rest
