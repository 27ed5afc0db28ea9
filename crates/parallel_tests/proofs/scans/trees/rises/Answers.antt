use Rattle.std.proofs.Common.{arith, ◌≡◌, ◌∙◌, Some, ap, set, sum_by}
use Rattle.prefix_scan.proofs.FoldLemmas.{sum_by-set_le}
use Rattle.prefix_scan.specs.declared.last_values.Last.{Last}
use Rattle.parallel_tests.proofs.scans.trees.rises.Goals as goal

pub set-requires-clause-sizes : goal.set-requires-clause-sizes
set-requires-clause-sizes c = omega (arith, c.requires.sizes, sum_by-set_le (λ v. v.parts) c.args.tree.now.values c.args.i (record { value = Some 5; parts = 1 }) c.requires.within)

pub returns-clause-sizes : goal.returns-clause-sizes
returns-clause-sizes c =
    let five : Last = record { value = Some 5; parts = 1 } in
    let values : c.prefix.new.self.values ≡ set c.args.tree.now.values c.args.i five = c.prefix.ensures.values ∙ c.set.ensures.values in
    omega (arith, sum_by-set_le (λ v. v.parts) c.args.tree.now.values c.args.i five c.requires.within, ap (sum_by (λ v. v.parts)) values)
