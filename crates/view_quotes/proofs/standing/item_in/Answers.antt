use Rattle.std.proofs.Common.{◌∙◌, sym}
use Rattle.view_quotes.proofs.StandingLemmas.{item_before, item_none, item_there}
use Rattle.view_quotes.proofs.standing.item_in.Goals as goal

pub returns-then-same_cell : goal.returns-then-same_cell
returns-then-same_cell c fills =
    item_there c.args.items.now c.loop-item.rest.now c.in-Some.before.now c.in-Some.item.now c.args.cell fills c.in-Some.ensures.cases.0 c.loop-item.invariant
    (sym c.same_cell.ensures ∙ c.if-same_cell.true)

pub loop-item-preserved : goal.loop-item-preserved
loop-item-preserved c =
    item_before c.args.items.now c.loop-item.rest.now c.in-Some.before.now c.in-Some.item.now c.args.cell c.in-Some.ensures.cases.0 c.loop-item.invariant
    (sym c.same_cell.ensures ∙ c.if-same_cell.false)

pub returns : goal.returns
returns c fills = item_none c.args.items.now c.loop-item.rest.now c.args.cell fills c.in_default.ensures.cases c.loop-item.invariant
