use Rattle.std.proofs.Common.{refl, arith}
use Rattle.std.proofs.lemmas.List.{same_lists}
use Rattle.ship_tables.proofs.tanks.same_tables.Goals as goal

pub returns : goal.returns
returns c = (λ passed. same_lists _ _ c.if-a-b.false (λ k d inside. c.loop-number.invariant k d (omega arith)), λ equal. refl)
