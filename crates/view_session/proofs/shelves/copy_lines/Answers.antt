use Rattle.std.proofs.Common.{◌∙◌, ap}
use Rattle.view_session.specs.Trails.{texts_of}
use Rattle.view_session.proofs.TrailLemmas.{copy_more}
use Rattle.view_session.proofs.shelves.copy_lines.Goals as goal

pub loop-line-preserved : goal.loop-line-preserved
loop-line-preserved c =
    ap texts_of c.in_ok-push.ensures.items
    ∙ copy_more c.args.lines.now c.loop-line.list.items c.loop-line.line-index c.line-item.result c.in_ok-from_slice.field-0
    c.loop-line-test.true c.line-item.is c.loop-line.invariant (c.in_ok-from_slice.ensures.items ∙ c.as_slice.ensures.value)
