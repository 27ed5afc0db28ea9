use Rattle.std.proofs.Common.{arith, false}
use Rattle.std.proofs.lemmas.Grind.{common_steps}
use Rattle.edifact_text.proofs.PiecesLemmas.{end_next}
use Rattle.edifact_text.proofs.pieces.end_nearby.Goals as goal

pub loop-at-preserved : goal.loop-at-preserved
loop-at-preserved c =
    let next = end_next c.args.release c.args.separator false c.args.bytes.now c.loop-at.at c.loop-at-test.true in
    grind (arith, common_steps, next)
