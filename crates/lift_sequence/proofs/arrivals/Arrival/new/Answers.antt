use Rattle.std.proofs.Common.{rules, ◌≡◌, ◌≤◌, ◌∙◌, ◌++◌, List, ap, arith, length, length-append}
use Rattle.stow_messages.specs.declared.items.Item.{Item}
use Rattle.lift_sequence.specs.Arrival.{arrival_bodies, on_arrival, with_fills}
use Rattle.lift_sequence.specs.Aboard.{cargo_in}
use Rattle.lift_sequence.specs.Bodies.{bodies}
use Rattle.units_core.specs.Totals.{total}
use Rattle.lift_sequence.proofs.ArrivalSums.{arrival_sums}
use Rattle.lift_sequence.proofs.States.{filter_few}
use Rattle.lift_sequence.proofs.arrivals.Arrival.new.Goals as goal

pub returns-clause-sums : goal.returns-clause-sums
returns-clause-sums c =
    let ship = c.args.profile.now in
    let items = c.deref.result.now in
    let fills = c.args.fills.now in
    let listed : c.in-Ok-join_bodies.bodies.items ≡ arrival_bodies ship items fills =
    c.in-Ok-join_bodies.ensures
    ∙ (λ j. c.blocks-blocks.ensures.value j ++ ((c.deref-2.ensures.value ∙ c.in_ok-filled.ensures.bodies) j ++ (c.deref-3.ensures.value ∙ c.in_ok-stowed.ensures.bodies) j)) in
    λ once f.
    ap (total f) listed ∙ arrival_sums ship items fills c.blocks-blocks.ensures.sound.tables.tables.distinct c.in_ok-stowed.ensures.legal once f
    ∙ ap (λ (given : List Item). total f (bodies ship (on_arrival given fills))) c.deref.ensures.value

pub invariant_of-result : goal.invariant_of-result
invariant_of-result c =
    let ship = c.args.profile.now in
    let blocks = c.blocks-blocks.result.now in
    let filled = c.in_ok-filled.filled.items in
    let stowed = c.in_ok-stowed.stowed.items in
    let all : c.in-Ok-join_bodies.bodies.items ≡ blocks ++ (filled ++ stowed) = c.in-Ok-join_bodies.ensures ∙ (λ j. blocks ++ (c.deref-2.ensures.value j ++ c.deref-3.ensures.value j)) in
    let few_blocks : length blocks ≤ 200 = rw c.blocks-blocks.ensures.value c.blocks-blocks.ensures.sound.ship.blocks.few in
    let few_fills : length filled ≤ length c.args.fills.now = rw c.in_ok-filled.ensures.bodies (filter_few _ c.args.fills.now) in
    let few_items : length stowed ≤ length c.deref.result.now = rw c.in_ok-stowed.ensures.bodies (filter_few _ c.deref.result.now) in
    let aboard : cargo_in c.fill_all.new.stowage ≡ on_arrival c.deref.result.now c.args.fills.now =
    c.in-Ok-fill_all.ensures ∙ (λ j. with_fills (c.in_ok-stowed.ensures.aboard j) c.args.fills.now) in (
      record {
        few = omega (arith, ap length all, length-append blocks (filled ++ stowed), length-append filled stowed, few_blocks, few_fills, few_items, c.in_ok-stowed.ensures.few, c.requires);
        light = search rules;
      },
      search (rules, aboard),
    )
