use Rattle.std.proofs.Common.{◌≡◌, Some, get_or, refl, rules}
use Rattle.ship_profile.specs.Record.{tank_body}
use Rattle.lift_sequence.specs.Bodies.{fill_body}
use Rattle.lift_sequence.proofs.States.{filter_more, fills_pass}
use Rattle.lift_sequence.proofs.arrivals.fill_bodies.Goals as goal

pub loop-fill-preserved : goal.loop-fill-preserved
loop-fill-preserved c =
    let x = get_or c.args.fills.now c.loop-fill.fill-index (record { tank = 0; kg = 0 }) in
    let is : Some c.in-Some.body ≡ tank_body c.args.profile.now x.tank x.kg = search rules in
    record {
      number_is = search rules;
      bodies_are = filter_more (fill_body c.args.profile.now) c.args.fills.now c.loop-fill.fill-index x
          c.loop-fill.bodies.items c.push.new.self.items (Some c.in-Some.body) (search rules) (search rules) c.loop-fill.invariant.bodies_are is (search rules);
      legal = fills_pass c.args.profile.now c.args.fills.now c.loop-fill.fill-index c.loop-fill.number x _ (search rules) (search rules)
          c.loop-fill.invariant.legal (rw (← is) refl);
    }
