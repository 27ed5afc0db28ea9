use Rattle.std.proofs.Common.{◌≡◌, ◌∙◌, ◌+◌, ◌-◌, ◌<◌, None, Some, ap, arith, get_or, length, rules, sym, take}
use Rattle.std.specs.Option.{option_or}
use Rattle.lift_sequence.specs.Aboard.{Aboard, after_all}
use Rattle.lift_sequence.specs.Arrival.{cargo_on}
use Rattle.lift_sequence.specs.Singles.{mass_in}
use Rattle.lift_sequence.proofs.NearLemmas.{after_more, tank_after}
use Rattle.lift_sequence.proofs.near.mass_after.Goals as goal

pub returns-in-Some : goal.returns-in-Some
returns-in-Some c =
    let at = cargo_on c.args.arrival.now in
    let ops = c.args.ops.now in
    let name = c.args.name.now in
    let tank = c.args.tank in
    let op = c.index-ops-place.result in
    let before = c.loop-place.place - 1 in
    let next : c.loop-place.place ≡ before + 1 = omega (arith, c.loop-place-test.true) in
    let within : before < length ops = omega (arith, c.loop-place-test.true, c.loop-place.invariant.within) in
    let there : op ≡ get_or ops before op = c.index-ops-place.is in
    let fills_it : mass_in op name ≡ Some c.in-Some.kg = search rules in
    λ ship is.
    sym (c.loop-place.invariant.still ship is
    ∙ ap (λ n. (after_all ship at (take n ops)).tanks tank) next
    ∙ ap (λ (a : Aboard). a.tanks tank) (after_more ship at ops before op within there)
    ∙ tank_after ship name tank is (after_all ship at (take before ops)) op
    ∙ ap (λ o. option_or o ((after_all ship at (take before ops)).tanks tank)) fills_it)

pub loop-place-preserved : goal.loop-place-preserved
loop-place-preserved c =
    let at = cargo_on c.args.arrival.now in
    let ops = c.args.ops.now in
    let name = c.args.name.now in
    let tank = c.args.tank in
    let op = c.index-ops-place.result in
    let before = c.loop-place.place - 1 in
    let next : c.loop-place.place ≡ before + 1 = omega (arith, c.loop-place-test.true) in
    let within : before < length ops = omega (arith, c.loop-place-test.true, c.loop-place.invariant.within) in
    let there : op ≡ get_or ops before op = c.index-ops-place.is in
    let fills_not : mass_in op name ≡ None = search rules in
    record {
      within = omega (arith, c.loop-place.invariant.within);
      still = λ ship is. c.loop-place.invariant.still ship is
          ∙ ap (λ n. (after_all ship at (take n ops)).tanks tank) next
          ∙ ap (λ (a : Aboard). a.tanks tank) (after_more ship at ops before op within there)
          ∙ tank_after ship name tank is (after_all ship at (take before ops)) op
          ∙ ap (λ o. option_or o ((after_all ship at (take before ops)).tanks tank)) fills_not;
    }
