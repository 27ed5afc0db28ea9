use Rattle.std.proofs.Common.{arith, ◌+◌, ◌∙◌, take}
use Rattle.std.proofs.lemmas.List.Sums.{sum_by-take-le}
use Rattle.prefix_scan.proofs.FoldLemmas.{fold-join}
use Rattle.prefix_scan.proofs.SumLemmas.{length-sums, sums-at}
use Rattle.prefix_scan.proofs.running_joins.Running.new.Goals as goal

pub returns-clause-count : goal.returns-clause-count
returns-clause-count g c = length-sums g.M.Monoid.op c.args.offset c.args.values.now

pub returns-clause-items : goal.returns-clause-items
returns-clause-items g c i d low =
    let m = g.M.Monoid in
    let xs = c.args.values.now in
    sums-at m.op c.args.offset xs i d low ∙ fold-join g.met.M.Monoid.laws c.args.offset (take (i + 1) xs) (omega (arith, c.requires, sum_by-take-le m.weight xs (i + 1)))
