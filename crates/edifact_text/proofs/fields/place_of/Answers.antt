use Rattle.std.proofs.Common.{take, arith}
use Rattle.std.proofs.lemmas.List.{length-take-le}
use Rattle.edifact_text.proofs.VectorLemmas.{none_seen, one_seen}
use Rattle.edifact_text.proofs.fields.place_of.Goals as goal

pub returns-then-places-eq0 : goal.returns-then-places-eq0
returns-then-places-eq0 c = none_seen 16 (take 16 c.args.bytes.now) c.args.byte (length-take-le 16 c.args.bytes.now c.requires) (omega arith) c.if-places-eq0.true

pub returns-else-places-eq0 : goal.returns-else-places-eq0
returns-else-places-eq0 c = one_seen 16 (take 16 c.args.bytes.now) c.args.byte (length-take-le 16 c.args.bytes.now c.requires) (omega arith) c.if-places-eq0.false
