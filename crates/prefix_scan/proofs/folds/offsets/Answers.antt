use Rattle.std.proofs.Common.{rules, arith, ap, ◌∙◌, ◌≡◌, ◌<◌, ◌+◌, length}
use Rattle.std.proofs.lemmas.List.Sums.{fold_more, sum_by_more, sum_by_more_le}
use Rattle.prefix_scan.proofs.FoldLemmas.{scan_more}
use Rattle.prefix_scan.proofs.folds.offsets.Goals as goal

pub loop-value-preserved : goal.loop-value-preserved
loop-value-preserved g c =
    let m = g.M.Monoid in
    let values = c.args.values.now in
    let i = c.loop-value.value-index in
    let within : i < length values = search rules in
    let pushed = c.in_ok-push.ensures.items in
    let listed = scan_more m.op m.empty values i within in
    let folded = fold_more m.op m.empty values i c.value-item.result within in
    let weighed = sum_by_more m.weight values i c.value-item.result within in
    let fits = sum_by_more_le m.weight values i c.value-item.result within in
    let law = g.met.M.Monoid.laws.op_weight c.loop-value.before c.value-item.result in
    let inv = c.loop-value.invariant in
    let read = c.value-item.is in
    let joined : m.weight c.join-before.result ≡ m.weight c.loop-value.before + m.weight c.value-item.result = ap m.weight c.join-before.ensures ∙ law (omega (arith, ap m.weight read, inv.3, c.requires)) in
    let same = ap m.weight read in
    (cc, search rules, cc, cc)
