use Rattle.std.proofs.Common.{rules, arith, ℕ, ◌≡◌, ◌∙◌, ◌-◌, ◌*◌, ◌^◌, ◌<◌, ◌≤◌, ℤ, pos, ◌≤ℤ◌, List, length, length-set, get_or, slice_get, Option, Some, ap, sym, subst, unsigned_abs, FitsSigned, to_z-of_z}
use Rattle.std.specs.Int.{w64, w128}
use Rattle.std.specs.Prelude.{IfSome}
use Rattle.std.proofs.lemmas.Option.{slice_get-get_or, slice_get_past}
use Rattle.units_core.specs.Interpolation.{at}
use Rattle.units_core.specs.Ratio.{floor_of}
use Rattle.units_core.proofs.Signed.{signed_arith, one_part}
use Rattle.units_core.specs.declared.frames.Frame.{Frame}
use Rattle.moment_sums.specs.Kept.{values}
use Rattle.moment_sums.specs.Sum.{Weight}
use Rattle.moment_sums.proofs.Bounds.{set_done, set_rest}
use Rattle.strength.specs.Hull.{weight_aft}
use Rattle.strength.specs.Buoyancy.{force_of, intervals_aft, moment_of_buoyancy}
use Rattle.strength.specs.Strains.{bending_at, bending_there, shear_at, shear_there}
use Rattle.strength.proofs.Placed.{all_places, less_read}
use Rattle.strength.proofs.strains.set_strains.Goals as goal

-- what is aft of a frame is at most what there is
aft_within : (w a k : ℤ) → w ≡ a → pos 0 ≤ℤ a → a ≤ℤ k → unsigned_abs k ≤ 10 ^ 9 → unsigned_abs w ≤ 10 ^ 16
aft_within w a k e low high size = rw e (omega (arith, signed_arith, one_part a, one_part k, low, high, size))

-- and so is its moment
moment_within : (w m k : ℤ) → w ≡ m → unsigned_abs m ≤ 2 * 10 ^ 6 * unsigned_abs k → unsigned_abs k ≤ 10 ^ 9 → unsigned_abs w ≤ 10 ^ 16
moment_within w m k e high size = rw e (omega (arith, high, size))

pub volume_aft-volume-requires-clause-weight : goal.volume_aft-volume-requires-clause-weight
volume_aft-volume-requires-clause-weight c =
    let i = c.loop-i.i in
    let few = c.as_slice-frames.ensures.few in
    let test = c.loop-i-test.true in
    let w : FitsSigned w64 c.last_weight-counts.result.volume = search rules in
    let is = c.last_weight-counts.ensures.value ∙ (c.requires.of.weights i (omega (arith, few, test)) ∙ (λ j. weight_aft (at (sym c.stations-stations.ensures.value j)) (sym c.intervals_aft-n.ensures.value j))) in
    to_z-of_z w ∙ (λ j. (is j).volume)

pub arm_aft-arm-requires-clause-weight : goal.arm_aft-arm-requires-clause-weight
arm_aft-arm-requires-clause-weight c =
    let i = c.loop-i.i in
    let few = c.as_slice-frames.ensures.few in
    let test = c.loop-i-test.true in
    let w : FitsSigned w64 c.last_weight-counts.result.moment = search rules in
    let is = c.last_weight-counts.ensures.value ∙ (c.requires.of.weights i (omega (arith, few, test)) ∙ (λ j. weight_aft (at (sym c.stations-stations.ensures.value j)) (sym c.intervals_aft-n.ensures.value j))) in
    to_z-of_z w ∙ (λ j. (is j).moment)

pub narrow-weight-requires : goal.narrow-weight-requires
narrow-weight-requires c =
    let i = c.loop-i.i in
    let b = c.requires.bounded in
    let w : FitsSigned w128 c.weight_aft.result = search rules in
    simp (to_z-of_z w) (aft_within c.weight_aft.result _ _ c.weight_aft.ensures (b.weights_low i) (b.weights_high i) c.requires.kg)

pub narrow-moment-requires : goal.narrow-moment-requires
narrow-moment-requires c =
    let i = c.loop-i.i in
    let b = c.requires.bounded in
    let w : FitsSigned w128 c.moment_aft.result = search rules in
    simp (to_z-of_z w) (moment_within c.moment_aft.result _ (values c.args.totals.now Weight) c.moment_aft.ensures (b.moments_high i) c.requires.kg)

pub loop-i-preserved : goal.loop-i-preserved
loop-i-preserved c =
    let inv = c.loop-i.invariant in
    let i = c.loop-i.i in
    let n = c.intervals_aft-n.result in
    let ship = c.args.profile.now.ship in
    let xs = ship.stations in
    let s = values c.args.totals.now in
    let of = c.requires.of in
    let frames = c.as_slice-frames.result.now in
    let frame : Frame = get_or frames i c.index-frames-i.result in
    let here : slice_get ship.frames i ≡ Some frame = ap (λ (fs : List Frame). slice_get fs i) (sym (c.as_slice-frames.ensures.value ∙ c.frames.ensures.value)) ∙ slice_get-get_or frames i c.index-frames-i.result c.loop-i-test.true in
    let aft : n ≡ intervals_aft xs frame.x = c.intervals_aft-n.ensures.value ∙ subst (λ (o : Option Frame). IfSome o (λ f. get_or c.args.hull.now.aft i 0 ≡ intervals_aft xs f.x)) here (of.aft i) in
    let inside : n < length xs = rw c.intervals_aft-n.ensures.value (of.inside i) in
    let st = c.stations-stations.ensures.value in
    let zs = c.stations-stations.result.now in
    let v : FitsSigned w64 c.volume_aft-volume.result = search rules in
    let u : FitsSigned w128 c.arm_aft-arm.result = search rules in
    let m : FitsSigned w64 c.mm.result = search rules in
    let w1 : FitsSigned w128 c.weight_aft.result = search rules in
    let n1 : FitsSigned w64 c.narrow-weight.result = search rules in
    let b1 : FitsSigned w64 c.buoyancy.result = search rules in
    let r1 : FitsSigned w64 c.minus.result = search rules in
    let w2 : FitsSigned w128 c.moment_aft.result = search rules in
    let n2 : FitsSigned w64 c.narrow-moment.result = search rules in
    let b2 : FitsSigned w64 c.buoyancy_moment.result = search rules in
    let r2 : FitsSigned w64 c.minus-in-loop-i.result = search rules in
    let few = c.as_slice-frames.ensures.few in
    let shears = inv.shear_size in
    let bendings = inv.bending_size in
    let less : i < length c.loop-i.strains.shear = omega arith in
    let less2 : i < length c.loop-i.strains.bending = omega arith in
    record {
      shear_size = simp length-set shears;
      shear_done = λ areas run.
          let force = c.buoyancy.ensures.value (at zs) areas n (to_z-of_z v ∙ c.volume_aft-volume.ensures.value areas (λ k low. run k (omega (arith, inside, low)))) ∙ (λ j. floor_of (force_of (at (st j)) areas (aft j))) in
          let shear_is = less_read c.narrow-weight.result c.buoyancy.result c.minus.result _ _ n1 b1 r1 c.minus.ensures (c.narrow-weight.ensures.value ∙ (to_z-of_z w1 ∙ c.weight_aft.ensures)) force ∙ ap (λ (o : Option Frame). shear_there s areas xs i o) (sym here) in
          set_done c.loop-i.strains.shear (shear_at s areas xs ship.frames) i _ less (inv.shear_done areas run) shear_is;
      shear_rest = set_rest c.loop-i.strains.shear (shear_at s (at xs) xs ship.frames) i _ less inv.shear_rest;
      bending_size = simp length-set bendings;
      bending_done = λ areas run.
          let same : (k : ℕ) → k ≤ n → at c.args.walk.now.areas k ≡ areas k = λ k low. run k (omega (arith, inside, low)) in
          let moment = c.buoyancy_moment.ensures.value (at zs) areas n (to_z-of_z v ∙ c.volume_aft-volume.ensures.value areas same) (to_z-of_z u ∙ c.arm_aft-arm.ensures.value areas same) ∙ (λ j. floor_of (moment_of_buoyancy (at (st j)) areas ((to_z-of_z m ∙ c.mm.ensures.value) j) (aft j))) in
          let bending_is = less_read c.narrow-moment.result c.buoyancy_moment.result c.minus-in-loop-i.result _ _ n2 b2 r2 c.minus-in-loop-i.ensures (c.narrow-moment.ensures.value ∙ (to_z-of_z w2 ∙ c.moment_aft.ensures)) moment ∙ ap (λ (o : Option Frame). bending_there s areas xs i o) (sym here) in
          set_done c.loop-i.strains.bending (bending_at s areas xs ship.frames) i _ less2 (inv.bending_done areas run) bending_is;
      bending_rest = set_rest c.loop-i.strains.bending (shear_at s (at xs) xs ship.frames) i _ less2 inv.bending_rest;
    }

pub returns : goal.returns
returns c =
    let inv = c.loop-i.invariant in
    let ship = c.args.profile.now.ship in
    let s = values c.args.totals.now in
    let are : c.as_slice-frames.result.now ≡ ship.frames = c.as_slice-frames.ensures.value ∙ c.frames.ensures.value in
    let ended : length c.as_slice-frames.result.now ≤ c.loop-i.i = omega arith in
    let all : length ship.frames ≤ c.loop-i.i = rw are at ended in
    let zs = c.stations-stations.result.now in
    let st = c.stations-stations.ensures.value in
    let some = c.stations-stations.ensures.sound.ship.stations.some in
    let n = length zs - 1 in
    let many : length zs ≡ length ship.stations = ap (λ (xs : List ℤ). length xs) st in
    let v : FitsSigned w64 c.volume_aft-volume-2.result = search rules in
    let b : FitsSigned w64 c.buoyancy-2.result = search rules in
    let k : FitsSigned w128 c.kg.result = search rules in
    let w : FitsSigned w64 c.narrow.result = search rules in
    let r : FitsSigned w64 c.minus-strains.result = search rules in
    λ areas run.
    record {
      are_shear = all_places c.loop-i.strains.shear (shear_at s areas ship.stations ship.frames) c.loop-i.i (inv.shear_done areas run) inv.shear_rest
          (λ j past. let out : length ship.frames ≤ j = omega (arith, all, past) in ap (λ (o : Option Frame). shear_there s areas ship.stations j o) (slice_get_past ship.frames j out));
      are_bending = all_places c.loop-i.strains.bending (bending_at s areas ship.stations ship.frames) c.loop-i.i (inv.bending_done areas run) inv.bending_rest
          (λ j past. let out : length ship.frames ≤ j = omega (arith, all, past) in ap (λ (o : Option Frame). bending_there s areas ship.stations j o) (slice_get_past ship.frames j out));
      is_closing = less_read c.buoyancy-2.result c.narrow.result c.minus-strains.result _ _ b w r c.minus-strains.ensures
          (c.buoyancy-2.ensures.value (at zs) areas n (to_z-of_z v ∙ c.volume_aft-volume-2.ensures.value areas (λ j low. run j (omega (arith, low, many, some)))) ∙ (λ j. floor_of (force_of (at (st j)) areas (length (st j) - 1)))) (c.narrow.ensures.value ∙ (to_z-of_z k ∙ c.kg.ensures));
    }
