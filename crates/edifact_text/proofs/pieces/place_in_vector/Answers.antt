use Rattle.std.proofs.Common.{take, arith}
use Rattle.std.proofs.lemmas.List.{length-take-le}
use Rattle.edifact_text.proofs.VectorLemmas.{none_seen, one_seen}
use Rattle.edifact_text.proofs.pieces.place_in_vector.Goals as goal

pub returns-then-places-eq0 : goal.returns-then-places-eq0
returns-then-places-eq0 c = none_seen 32 (take 32 c.args.bytes.now) c.args.byte (length-take-le 32 c.args.bytes.now c.requires) (omega arith) c.if-places-eq0.true

pub returns-else-places-eq0 : goal.returns-else-places-eq0
returns-else-places-eq0 c = one_seen 32 (take 32 c.args.bytes.now) c.args.byte (length-take-le 32 c.args.bytes.now c.requires) (omega arith) c.if-places-eq0.false
