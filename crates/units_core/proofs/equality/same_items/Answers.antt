use Rattle.std.specs.Cmp.Lexicographic.{pointwise_decides}
use Rattle.units_core.proofs.equality.same_items.Goals as goal

pub returns : goal.returns
returns g c = rw c.eq.ensures (pointwise_decides g.met.T.Exact.exact c.args.a.now c.args.b.now)
