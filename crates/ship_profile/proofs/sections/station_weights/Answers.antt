use Rattle.std.proofs.Common.{rules, arith, ◌≡◌, ◌++◌, ◌∷◌, [], map, sym}
use Rattle.std.specs.List.{range_with_len}
use Rattle.std.proofs.lemmas.List.FromFn.{map-range_with_len_more}
use Rattle.units_core.specs.Interpolation.{at}
use Rattle.ship_profile.specs.Sections.{station_weight}
use Rattle.ship_profile.proofs.sections.station_weights.Goals as goal

pub loop-k-preserved : goal.loop-k-preserved
loop-k-preserved c =
    let k = c.loop-k.k in
    let xs = c.args.stations.now in
    let push : c.push.new.self.items ≡ c.loop-k.weights.items ++ c.station_weight.result ∷ [] = search rules in
    let weight : c.station_weight.result ≡ station_weight (at xs) k = search rules in
    rw (push, c.loop-k.invariant, weight) (sym (map-range_with_len_more (station_weight (at xs)) 0 k k (omega arith)))
