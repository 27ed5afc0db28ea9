use Rattle.std.proofs.Common.{rules, ◌^◌, ◌<◌, length, length-set, FitsSigned, to_z-of_z, arith}
use Rattle.std.specs.Int.{w128}
use Rattle.ship_tables.specs.Curves.{curve_at}
use Rattle.righting.proofs.Crossed.{set_done, set_within}
use Rattle.righting.proofs.cross_curves.crossing_at.Goals as goal

pub loop-k-preserved : goal.loop-k-preserved
loop-k-preserved c =
    let inv = c.loop-k.invariant in
    let k = c.loop-k.k in
    let w = c.ranges.kg in
    let out : FitsSigned w128 c.curve_reading.result = search rules in
    let n = inv.size in
    let less : k < length c.loop-k.lever = omega arith in
    let done = simp (to_z-of_z w) at inv.done in
    let value = simp (to_z-of_z w) at c.curve_reading.ensures.value in
    record {
      size = simp length-set n;
      done = simp (to_z-of_z out, to_z-of_z w) (set_done c.loop-k.lever (λ j. (curve_at c.args.curves.now c.args.kg j c.args.i).top) k c.curve_reading.result less done value);
      within = simp (to_z-of_z out) (set_within c.loop-k.lever k c.curve_reading.result (10 ^ 14) less inv.within c.curve_reading.ensures.within);
    }
