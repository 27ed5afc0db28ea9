use Rattle.std.proofs.Common.{arith}
use Rattle.std.proofs.lemmas.Grind.{common_steps}
use Rattle.edifact_text.proofs.PiecesLemmas.{end_next}
use Rattle.edifact_text.proofs.pieces.end_of.Goals as goal
use Rattle.edifact_text.proofs.pieces.end_of.Goals.{then-held, else-held+then-is_release, else-held+else-is_release+else-byte-separator}

pub loop-at-preserved : goal.loop-at-preserved
loop-at-preserved c =
    let next = end_next c.args.release c.args.separator c.loop-at.held c.args.bytes.now c.loop-at.at c.loop-at-test.true in
    elim c.if-held.branch [
      | then-held w ↦ grind (arith, common_steps, next)
      | else-held+then-is_release w ↦ grind (arith, common_steps, next)
      | else-held+else-is_release+else-byte-separator w ↦ grind (arith, common_steps, next)
    ]
