use Rattle.std.proofs.Common.{◌∙◌, sym}
use Rattle.lift_sequence.specs.Aboard.{after_all}
use Rattle.lift_sequence.specs.Arrival.{on_arrival}
use Rattle.view_quotes.proofs.StandingLemmas.{step_back}
use Rattle.view_quotes.proofs.standing.stands.Goals as goal

pub returns-in-Nobody : goal.returns-in-Nobody
returns-in-Nobody c ship fills =
    let at = on_arrival c.args.items.now fills in
    let before = after_all ship at c.in-Some.before.now in
    let back = step_back ship at c.loop-op.rest.now c.in-Some.before.now c.in-Some.op.now c.loop-op.place c.in-Some.ensures.cases.0 in
    sym (sym (c.loop-op.invariant ship at) ∙ back ∙ c.in-Nobody.ensures ship before)

pub returns-in-Loaded : goal.returns-in-Loaded
returns-in-Loaded c ship fills =
    let at = on_arrival c.args.items.now fills in
    let before = after_all ship at c.in-Some.before.now in
    let back = step_back ship at c.loop-op.rest.now c.in-Some.before.now c.in-Some.op.now c.loop-op.place c.in-Some.ensures.cases.0 in
    sym (sym (c.loop-op.invariant ship at) ∙ back ∙ c.in-Loaded.ensures ship before)

pub loop-op-preserved-in-Same : goal.loop-op-preserved-in-Same
loop-op-preserved-in-Same c ship at =
    let before = after_all ship at c.in-Some.before.now in
    let back = step_back ship at c.loop-op.rest.now c.in-Some.before.now c.in-Some.op.now c.loop-op.place c.in-Some.ensures.cases.0 in
    sym (c.in-Same.ensures ship before) ∙ sym back ∙ c.loop-op.invariant ship at

pub loop-op-preserved : goal.loop-op-preserved
loop-op-preserved c ship at =
    let before = after_all ship at c.in-Some.before.now in
    let back = step_back ship at c.loop-op.rest.now c.in-Some.before.now c.in-Some.op.now c.loop-op.place c.in-Some.ensures.cases.0 in
    sym (c.in-Restowed.ensures ship before) ∙ sym back ∙ c.loop-op.invariant ship at
