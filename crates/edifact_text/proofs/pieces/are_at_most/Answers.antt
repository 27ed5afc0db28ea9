use Rattle.std.proofs.Common.{arith, false}
use Rattle.edifact_text.proofs.PiecesLemmas.{some_piece}
use Rattle.edifact_text.proofs.pieces.are_at_most.Goals as goal

pub returns : goal.returns
returns c = let some = some_piece c.args.release c.args.separator false c.loop.rest.now in grind (arith, some, c.loop.invariant, c.loop-test.false)
