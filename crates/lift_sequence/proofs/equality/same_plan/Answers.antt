use Rattle.std.specs.Cmp.Lexicographic.{pointwise_decides}
use Rattle.lift_sequence.proofs.EqualityLemmas.{items_exact}
use Rattle.lift_sequence.proofs.equality.same_plan.Goals as goal

pub returns : goal.returns
returns c = rw c.eq.ensures (pointwise_decides items_exact c.args.items.now c.args.others.now)
