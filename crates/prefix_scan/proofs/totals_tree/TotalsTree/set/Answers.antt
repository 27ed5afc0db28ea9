use Rattle.std.proofs.Common.{arith, length, ap}
use Rattle.prefix_scan.specs.Counted.{Counted}
use Rattle.prefix_scan.proofs.HeightLemmas.{few_rows}
use Rattle.prefix_scan.proofs.totals_tree.TotalsTree.set.Goals as goal

pub returns-clause-cost : goal.returns-clause-cost
returns-clause-cost g c k fits =
    let is = ap (λ (t : Counted _). t.values) c.self.view_is in
    let count = ap (λ (t : Counted _). t.joins) c.self.view_is in
    omega (arith, few_rows (length c.self.inside.rows.items) (length c.args.self.now.values) k (omega (arith, c.self.invariant.0.tall, ap length is)) fits, c.replace.ensures.cost, ap length c.deref_mut.ensures.value, count)

pub returns-clause-few : goal.returns-clause-few
returns-clause-few g c k fits =
    let is = ap (λ (t : Counted _). t.values) c.self.view_is in
    let count = ap (λ (t : Counted _). t.joins) c.self.view_is in
    omega (arith, few_rows (length c.self.inside.rows.items) (length c.args.self.now.values) k (omega (arith, c.self.invariant.0.tall, ap length is)) fits, c.replace.ensures.few, ap length c.deref_mut.ensures.value, count)
