use Rattle.std.proofs.Common.{◌≡◌, ◌∙◌, ◌+◌, ◌-◌, ◌<◌, ap, arith, get_or, length, sym, take}
use Rattle.lift_sequence.specs.Aboard.{Aboard, after_all}
use Rattle.lift_sequence.specs.Arrival.{cargo_on}
use Rattle.lift_sequence.specs.Singles.{left_in}
use Rattle.lift_sequence.proofs.NearLemmas.{after_more}
use Rattle.lift_sequence.proofs.near.container_after.Goals as goal

pub returns-in-Is : goal.returns-in-Is
returns-in-Is c =
    let at = cargo_on c.args.arrival.now in
    let ops = c.args.ops.now in
    let cell = c.loop-place.cell in
    let op = c.index-ops-place.result in
    let before = c.loop-place.place - 1 in
    let next : c.loop-place.place ≡ before + 1 = omega (arith, c.loop-place-test.true) in
    let within : before < length ops = omega (arith, c.loop-place-test.true, c.loop-place.invariant.within) in
    let there : op ≡ get_or ops before op = c.index-ops-place.is in
    λ ship.
    sym (c.loop-place.invariant.came ship
    ∙ ap (λ n. (after_all ship at (take n ops)).cells cell) next
    ∙ ap (λ (a : Aboard). a.cells cell) (after_more ship at ops before op within there)
    ∙ sym (c.left_in.ensures ship (after_all ship at (take before ops)))
    ∙ ap (left_in (after_all ship at (take before ops))) c.in-Is.is)

pub loop-place-preserved : goal.loop-place-preserved
loop-place-preserved c =
    let at = cargo_on c.args.arrival.now in
    let ops = c.args.ops.now in
    let cell = c.loop-place.cell in
    let op = c.index-ops-place.result in
    let before = c.loop-place.place - 1 in
    let next : c.loop-place.place ≡ before + 1 = omega (arith, c.loop-place-test.true) in
    let within : before < length ops = omega (arith, c.loop-place-test.true, c.loop-place.invariant.within) in
    let there : op ≡ get_or ops before op = c.index-ops-place.is in
    record {
      within = omega (arith, c.loop-place.invariant.within);
      came = λ ship. c.loop-place.invariant.came ship
          ∙ ap (λ n. (after_all ship at (take n ops)).cells cell) next
          ∙ ap (λ (a : Aboard). a.cells cell) (after_more ship at ops before op within there)
          ∙ sym (c.left_in.ensures ship (after_all ship at (take before ops)))
          ∙ ap (left_in (after_all ship at (take before ops))) c.in-WasIn.is;
    }
