use Rattle.std.proofs.Common.{arith, length, ap}
use Rattle.prefix_scan.specs.Counted.{Counted}
use Rattle.prefix_scan.proofs.HeightLemmas.{few_rows, stretch_cost}
use Rattle.prefix_scan.proofs.totals_tree.TotalsTree.set_stretch.Goals as goal

pub returns-clause-few : goal.returns-clause-few
returns-clause-few g c k fits =
    let is = ap (λ (t : Counted _). t.values) c.self.view_is in
    let count = ap (λ (t : Counted _). t.joins) c.self.view_is in
    let rows = few_rows (length c.self.inside.rows.items) (length c.args.self.now.values) k (omega (arith, c.self.invariant.0.tall, ap length is)) fits in
    stretch_cost (length c.args.values.now) (length c.deref_mut.result.now) k c.args.self.now.joins c.replace_stretch.new.count (omega (arith, rows, ap length c.deref_mut.ensures.value))
    (omega (arith, c.replace_stretch.ensures.few, count))
