use Rattle.std.proofs.Common.{arith, ◌∙◌, ap, length, set, sum_by, length-set}
use Rattle.prefix_scan.proofs.FoldLemmas.{sum_by-set_le}
use Rattle.parallel_tests.proofs.scans.trees.agrees_after_each_set.Goals as goal

pub set-requires-clause-sizes : goal.set-requires-clause-sizes
set-requires-clause-sizes c =
    let inv = c.loop-i.invariant in
    let grown = sum_by-set_le (λ x. x.parts) c.loop-i.tree.values c.loop-i.i c.last_of-value.result (omega (arith, ap length inv.0)) in
    omega (arith, ap (sum_by (λ x. x.parts)) inv.0, c.last_of-value.ensures, c.requires)

pub build-requires-in-loop-i : goal.build-requires-in-loop-i
build-requires-in-loop-i c =
    let inv = c.loop-i.invariant in
    let grown = sum_by-set_le (λ x. x.parts) c.loop-i.values.items c.loop-i.i c.last_of-value.result (omega arith) in
    omega (arith, ap (sum_by (λ x. x.parts)) c.deref-in-loop-i.ensures.value, c.last_of-value.ensures, c.requires)

pub loop-i-preserved : goal.loop-i-preserved
loop-i-preserved c =
    let inv = c.loop-i.invariant in
    let grown = sum_by-set_le (λ x. x.parts) c.loop-i.values.items c.loop-i.i c.last_of-value.result (omega arith) in
    (c.agree.ensures ∙ c.set.ensures.values ∙ ap (λ xs. set xs c.loop-i.i c.last_of-value.result) inv.0, length-set c.loop-i.values.items c.loop-i.i c.last_of-value.result ∙ inv.1, omega (arith, c.last_of-value.ensures))
