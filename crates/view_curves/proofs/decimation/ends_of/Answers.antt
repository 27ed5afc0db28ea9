use Rattle.std.proofs.Common.{sym, ◌≤◌, arith}
use Rattle.view_curves.proofs.decimation.ends_of.Goals as goal

pub loop-k-preserved : goal.loop-k-preserved
loop-k-preserved c =
    let from : c.args.start ≤ c.loop-k.k = omega (arith, c.loop-k.auto.k) in
    c.with_next-ends.ensures c.args.curve.now c.args.start from (sym c.figure_at.ensures) c.loop-k.invariant
