use Rattle.units_core.proofs.ListLemmas.{rows_decide}
use Rattle.units_core.proofs.equality.same_rows.Goals as goal

pub returns : goal.returns
returns g c = rw c.eq.ensures (rows_decide (λ v. v.items) _ g.met.T.Exact.exact c.args.rows.now c.args.others.now)
