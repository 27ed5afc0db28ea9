use Rattle.view_curves.proofs.Additions.{ends_added}
use Rattle.view_curves.proofs.decimation.add_ends.Goals as goal

pub returns : goal.returns
returns c =
    let two = c.in_order-before.result in
    ends_added c.args.ends two.0 two.1 c.args.drawn.now.items c.add.new.drawn.items c.add-2.new.drawn.items c.add-3.new.drawn.items
    c.add-4.new.drawn.items c.in_ok-add.ensures c.in_ok-add-2.ensures c.in_ok-add-3.ensures c.in_ok-add-4.ensures
    c.in_order-before.ensures.which c.in_order-before.ensures.order
