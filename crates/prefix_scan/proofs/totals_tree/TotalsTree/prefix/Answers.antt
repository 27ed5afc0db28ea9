use Rattle.std.proofs.Common.{arith, ◌≡◌, length, ap}
use Rattle.prefix_scan.specs.Counted.{Counted}
use Rattle.prefix_scan.proofs.HeightLemmas.{few_rows, no_rows}
use Rattle.prefix_scan.proofs.totals_tree.TotalsTree.prefix.Goals as goal

pub returns-clause-cost : goal.returns-clause-cost
returns-clause-cost g c k fits =
    let is = ap (λ (t : Counted _). t.values) c.self.view_is in
    let count = ap (λ (t : Counted _). t.joins) c.self.view_is in
    omega (arith, few_rows (length c.self.inside.rows.items) (length c.args.self.now.values) k (omega (arith, c.self.invariant.0.tall, ap length is)) fits, c.join_first.ensures.cost, ap length c.deref.ensures.value, count)

pub returns-clause-empty : goal.returns-clause-empty
returns-clause-empty g c none =
    let is = ap (λ (t : Counted _). t.values) c.self.view_is in
    let count = ap (λ (t : Counted _). t.joins) c.self.view_is in
    let no : length c.self.inside.rows.items ≡ 0 = no_rows (length c.self.inside.rows.items) (omega (arith, c.self.invariant.0.tall, ap length is, none)) in
    omega (arith, no, c.join_first.ensures.cost, c.join_first.ensures.grows, ap length c.deref.ensures.value, count)

pub returns-clause-few : goal.returns-clause-few
returns-clause-few g c k low =
    let count = ap (λ (t : Counted _). t.joins) c.self.view_is in
    omega (arith, c.join_first.ensures.few k low, count)
