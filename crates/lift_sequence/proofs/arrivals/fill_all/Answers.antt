use Rattle.std.proofs.Common.{refl, rules, get_or}
use Rattle.lift_sequence.specs.Aboard.{cargo_in}
use Rattle.lift_sequence.proofs.States.{same, fills_more}
use Rattle.lift_sequence.proofs.arrivals.fill_all.Goals as goal

pub loop-fill-preserved : goal.loop-fill-preserved
loop-fill-preserved c =
    let x = get_or c.args.fills.now c.loop-fill.fill-index (record { tank = 0; kg = 0 }) in
    fills_more (cargo_in c.args.stowage.now) (cargo_in c.loop-fill.stowage) _ c.args.fills.now c.loop-fill.fill-index x (search rules) (search rules) c.loop-fill.invariant
    (same _ _ (λ cell. refl) (search rules))
