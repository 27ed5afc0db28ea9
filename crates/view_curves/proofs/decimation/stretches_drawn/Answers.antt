use Rattle.std.proofs.Common.{◌≤◌, arith}
use Rattle.view_curves.proofs.StretchLemmas.{drawn_long, up_to_more}
use Rattle.view_curves.proofs.decimation.stretches_drawn.Goals as goal

pub loop-stretch-preserved : goal.loop-stretch-preserved
loop-stretch-preserved c =
    up_to_more c.args.curve.now c.loop-stretch.stretch c.loop-stretch.start c.start_of-end.result c.loop-stretch.drawn.items c.add_stretch.new.drawn.items
    c.loop-stretch.invariant c.start_of-end.ensures c.in_ok-add_stretch.ensures

pub returns : goal.returns
returns c =
    let whole : 300 ≤ c.loop-stretch.stretch = omega (arith, c.loop-stretch-test.false) in
    drawn_long c.args.curve.now c.loop-stretch.stretch c.loop-stretch.start c.loop-stretch.drawn.items c.requires whole c.loop-stretch.invariant
