use Rattle.std.proofs.Common.{pos, Some, ap, sym, ◌∙◌, refl, arith, rules}
use Rattle.lift_sequence.specs.Aboard.{Aboard, cargo_in, container_of, nothing}
use Rattle.lift_sequence.specs.Arrival.{items_fault}
use Rattle.units_core.specs.Totals.{total}
use Rattle.lift_sequence.specs.Bodies.{bodies_in_cells, item_body}
use Rattle.lift_sequence.proofs.Listings.{stowed_more, stowed_few, nothing_stands}
use Rattle.lift_sequence.proofs.States.{filter_more, items_more, items_pass, items_stop}
use Rattle.lift_sequence.proofs.arrivals.stow_items.Goals as goal

pub loop-item-preserved : goal.loop-item-preserved
loop-item-preserved c =
    let x = c.item-item.result in
    let e = c.in-Ok.ensures in
    record {
      number_is = search rules;
      stowed = stowed_more c.args.profile.now (cargo_in c.loop-item.stowage) _ x.cell (container_of x) c.loop-item.number c.requires.sound.tables.tables.distinct
          c.loop-item.invariant.stowed e.legal e.aboard;
      aboard = items_more nothing (cargo_in c.loop-item.stowage) _ c.args.items.now c.loop-item.item-index x (search rules) (search rules)
          c.loop-item.invariant.aboard e.aboard;
      bodies_are = filter_more (item_body c.args.profile.now) c.args.items.now c.loop-item.item-index x
          c.loop-item.bodies.items c.push.new.self.items (Some c.in-Ok.body) (search rules) (search rules) c.loop-item.invariant.bodies_are (sym e.body) (search rules);
      legal = items_pass c.args.profile.now (cargo_in c.loop-item.stowage) _ c.args.items.now c.loop-item.item-index c.loop-item.number x _ (search rules) (search rules)
          c.loop-item.invariant.legal e.legal e.aboard;
    }

pub returns-in-Err-clause-refused : goal.returns-in-Err-clause-refused
returns-in-Err-clause-refused c m =
    let x = c.item-item.result in
    let other = rw c.fault_at.ensures.code at m in
    items_stop c.args.profile.now (cargo_in c.loop-item.stowage) c.args.items.now c.loop-item.item-index c.loop-item.number x _ c.in-Err.code (search rules) (search rules)
    c.loop-item.invariant.legal (c.in-Err.ensures.refused other) ∙ ap (λ f. Some f) (sym (c.fault_at.ensures.told other))

pub loop-item-init : goal.loop-item-init
loop-item-init c =
    let ship = c.args.profile.now in
    record {
      number_is = refl;
      stowed = sym (ap (λ (a : Aboard). total (λ body. pos 1) (bodies_in_cells ship a.cells)) c.requires.nothing ∙ ap (total (λ body. pos 1)) (nothing_stands ship));
      aboard = c.requires.nothing;
      bodies_are = c.requires.none;
      legal = ap (λ (a : Aboard). items_fault ship a 1 c.args.items.now) (sym c.requires.nothing);
    }

pub overflow_add-number : goal.overflow_add-number
overflow_add-number c =
    let few = stowed_few c.args.profile.now (cargo_in c.loop-item.stowage) c.loop-item.number c.requires.sound.tables.tables.few_cells c.loop-item.invariant.stowed in
    omega (arith, few)

pub returns-clause-few : goal.returns-clause-few
returns-clause-few c =
    let few = stowed_few c.args.profile.now (cargo_in c.loop-item.stowage) c.loop-item.number c.requires.sound.tables.tables.few_cells c.loop-item.invariant.stowed in
    omega (arith, few, c.loop-item.invariant.number_is)
