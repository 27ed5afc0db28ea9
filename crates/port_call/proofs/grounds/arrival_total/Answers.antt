use Rattle.std.proofs.Common.{◌≡◌, ◌∙◌, ◌≤◌, length, ap, arith}
use Rattle.std.proofs.lemmas.List.{take_all}
use Rattle.moment_sums.specs.Kept.{size_of, values}
use Rattle.moment_sums.specs.Sum.{of_body, sum_of}
use Rattle.moment_sums.proofs.Bounds.{values_nothing}
use Rattle.port_call.proofs.Totals.{body_more}
use Rattle.port_call.proofs.grounds.arrival_total.Goals as goal

pub loop-body-init : goal.loop-body-init
loop-body-init c = record {
  sum = ap values c.unit-sum.ensures ∙ values_nothing;
  size = ap size_of c.unit-sum.ensures;
}

pub loop-body-preserved : goal.loop-body-preserved
loop-body-preserved c =
    let so_far = c.loop-body.invariant in
    let inside = c.loop-body-test.true in
    let few = c.requires in
    let count : length c.bodies-bodies.result.now ≡ length c.args.arrival.now.bodies = ap length c.bodies-bodies.ensures in
    record {
      sum = body_more c.args.profile.now.ship.frames c.bodies-bodies.result.now c.loop-body.body-index c.body-item.result _ _ _
          inside c.body-item.is so_far.sum (ap (λ f. of_body f c.body-item.result) c.frames-frames.ensures.value) c.add.ensures.values;
      size = omega (arith, c.add.ensures.size, so_far.size);
    }

pub returns-clause-sum : goal.returns-clause-sum
returns-clause-sum c =
    let past : length c.bodies-bodies.result.now ≤ c.loop-body.body-index = omega (arith, c.loop-body-test.false) in
    c.loop-body.invariant.sum
    ∙ ap (sum_of c.args.profile.now.ship.frames) (take_all c.loop-body.body-index c.bodies-bodies.result.now past ∙ c.bodies-bodies.ensures)
