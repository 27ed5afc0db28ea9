use Rattle.std.proofs.Common.{arith, ℤ, List, length, ap}
use Rattle.strength.proofs.hulls.frames_aft.Goals as goal

pub returns-clause-few : goal.returns-clause-few
returns-clause-few c = λ i.
    let inside = c.loop-i.invariant.inside i in
    let few = c.stations-stations.ensures.sound.ship.stations.few in
    omega (arith, inside, few, ap (λ (xs : List ℤ). length xs) c.stations-stations.ensures.value)
