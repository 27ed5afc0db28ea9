use Rattle.std.proofs.Common.{rules, ℤ, pos, ◌*◌, ◌^◌, ◌≤◌, ◌<◌, ◌*ℤ◌, unsigned_abs, FitsSigned, to_z-of_z, arith, length, get_or, length-set}
use Rattle.std.specs.Int.{w128}
use Rattle.units_core.proofs.Signed.{exact, signed_arith, product_within, fits_within, product_positive}
use Rattle.units_core.specs.Interpolation.{at}
use Rattle.righting.specs.declared.ordinates.Crossing.{Crossing}
use Rattle.units_core.specs.Angles.{sines, cosines}
use Rattle.righting.specs.Levers.{lever_top}
use Rattle.righting.proofs.Crossed.{set_done, set_within}
use Rattle.righting.proofs.Textbook.{lever_is}
use Rattle.righting.proofs.heeled.levers.Goals as goal

record Fits (r : Crossing) (upright side : ℤ) : Type 0 where
  pub kg : FitsSigned w128 r.kg
  pub gap : FitsSigned w128 r.gap
  pub up_fits : FitsSigned w128 upright
  pub side_fits : FitsSigned w128 side
  pub weight : FitsSigned w128 (r.gap *ℤ r.kg)
  pub den : FitsSigned w128 ((r.gap *ℤ r.kg) *ℤ pos 1000000)
  pub den_size : unsigned_abs ((r.gap *ℤ r.kg) *ℤ pos 1000000) ≤ 10 ^ 23

fits : (r : Crossing) (upright side : ℤ) → unsigned_abs upright ≤ 2 * 10 ^ 15 → unsigned_abs side ≤ 10 ^ 15 → Fits r upright side
fits r upright side u v =
    let weight = product_within r.gap r.kg _ _ r.gap_within r.kg_within in
    let den = product_within (r.gap *ℤ r.kg) (pos 1000000) _ (10 ^ 6) weight (omega arith) in
    record {
      kg = fits_within _ _ r.kg_within (omega arith);
      gap = fits_within _ _ r.gap_within (omega arith);
      up_fits = fits_within _ _ u (omega arith);
      side_fits = fits_within _ _ v (omega arith);
      weight = fits_within _ _ weight (omega arith);
      den = fits_within _ _ den (omega arith);
      den_size = omega (arith, den);
    }

pub overflow_mul-result : goal.overflow_mul-result
overflow_mul-result c = let s = fits c.args.crossing.now c.args.upright c.args.side c.requires.upright c.requires.side in search (rules, exact)

pub overflow_mul-result-2 : goal.overflow_mul-result-2
overflow_mul-result-2 c = let s = fits c.args.crossing.now c.args.upright c.args.side c.requires.upright c.requires.side in search (rules, exact)

pub loop-k-preserved : goal.loop-k-preserved
loop-k-preserved c =
    let r = c.args.crossing.now in
    let s = fits c.args.crossing.now c.args.upright c.args.side c.requires.upright c.requires.side in
    let inv = c.loop-k.invariant in
    let k = c.loop-k.k in
    let here : FitsSigned w128 (get_or c.args.crossing.now.lever c.loop-k.k (pos 0)) = fits_within _ _ (r.lever_within k) (omega arith) in
    let aside : FitsSigned w128 c.to_either_side-aside.result = search rules in
    let angle = c.angle_at-angle.ensures in
    let sine : FitsSigned w128 c.sine.result = fits_within _ _ c.sine.ensures.within (omega arith) in
    let cosine : FitsSigned w128 c.cosine.result = fits_within _ _ c.cosine.ensures.within (omega arith) in
    let out : FitsSigned w128 c.lever.result = search rules in
    let value = rw (c.sine.ensures.value, c.cosine.ensures.value, angle) at (simp (to_z-of_z here, to_z-of_z s.kg, to_z-of_z s.up_fits, to_z-of_z aside, to_z-of_z s.gap, to_z-of_z sine, to_z-of_z cosine) at c.lever.ensures.value) in
    let done = simp (to_z-of_z s.up_fits, to_z-of_z aside) at inv.done in
    let n = inv.size in
    let less : k < length c.loop-k.num = omega arith in
    record {
      size = simp length-set n;
      done = simp (to_z-of_z out, to_z-of_z s.up_fits, to_z-of_z aside) (set_done c.loop-k.num (lever_top r.lever r.kg c.args.upright c.to_either_side-aside.result r.gap) k c.lever.result less done value);
      within = simp (to_z-of_z out) (set_within c.loop-k.num k c.lever.result (10 ^ 30) less inv.within c.lever.ensures.size);
    }

pub invariant_of-result : goal.invariant_of-result
invariant_of-result c =
    let r = c.args.crossing.now in
    let s = fits c.args.crossing.now c.args.upright c.args.side c.requires.upright c.requires.side in
    record {
      positive = simp (to_z-of_z s.gap, to_z-of_z s.kg, to_z-of_z s.weight, to_z-of_z s.den) (product_positive _ _ (product_positive _ _ r.gap_positive r.kg_positive) (omega (arith, signed_arith)));
      den_within = simp (to_z-of_z s.gap, to_z-of_z s.kg, to_z-of_z s.weight, to_z-of_z s.den) s.den_size;
      num_within = c.loop-k.invariant.within;
    }

pub returns : goal.returns
returns c =
    λ k h.
    let r = c.args.crossing.now in
    let s = fits c.args.crossing.now c.args.upright c.args.side c.requires.upright c.requires.side in
    let aside : FitsSigned w128 c.to_either_side-aside.result = search rules in
    let abs = simp (to_z-of_z s.side_fits) at c.to_either_side-aside.ensures.value in
    let done = simp (to_z-of_z s.up_fits, to_z-of_z aside) at c.loop-k.invariant.done in
    let is = lever_is (at r.lever k) r.gap c.args.upright r.kg (at sines k) (pos (unsigned_abs c.args.side)) (at cosines k) (pos 1000000) r.gap_positive r.kg_positive (omega (arith, signed_arith)) in
    simp (to_z-of_z s.gap, to_z-of_z s.kg, to_z-of_z s.weight, to_z-of_z s.den) (rw (done k (omega arith), abs) is)
