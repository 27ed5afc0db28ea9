use Rattle.std.proofs.Common.{rules, arith, ◌≡◌, ◌∙◌, ℕ, ℤ, pos, ◌+◌, ◌-◌, ◌*◌, ◌^◌, ◌≤◌, ◌<◌, ◌+ℤ◌, ◌*ℤ◌, length, length-set, map, subst, unsigned_abs, FitsSigned, to_z, to_z-of_z, refl}
use Rattle.std.specs.Int.{w64, w128}
use Rattle.std.specs.List.{range_with_len}
use Rattle.std.specs.Prelude.{slice_index_or}
use Rattle.std.proofs.lemmas.Int.{fits_signed_from_abs}
use Rattle.std.proofs.lemmas.List.FromFn.{get_or-map-range_with_len, length-map-range_with_len}
use Rattle.units_core.specs.Interpolation.{at}
use Rattle.units_core.proofs.Signed.{fits_within, sum_within}
use Rattle.units_core.proofs.Signed as signed
use Rattle.moment_sums.proofs.Bounds.{set_done}
use Rattle.ship_profile.specs.Sections.{station_weight}
use Rattle.strength.specs.Buoyancy.{tops}
use Rattle.strength.proofs.Adding.{more, sum_back, sum_fits}
use Rattle.strength.proofs.Weights.{moment_within, volume_within, within_below}
use Rattle.strength.proofs.sums.set_sums.Goals as goal

pub bounds-walk-k : goal.bounds-walk-k
bounds-walk-k c =
    let xs = c.args.profile.now.ship.stations in
    let k = c.loop-k.k in
    let weights : c.weights-weights.result.now ≡ map (station_weight (at xs)) (range_with_len 0 (length xs - 1)) = c.weights-weights.ensures ∙ c.sections.ensures.value.are_weights in
    let many : length c.weights-weights.result.now ≡ length xs - 1 = rw weights (length-map-range_with_len (station_weight (at xs)) 0 (length xs - 1)) in
    let few = c.sections.ensures.sound.ship.stations.few in
    let less = c.loop-k-test.true in
    omega (arith, many, few, less)

pub bounds-walk-k-in-loop-k : goal.bounds-walk-k-in-loop-k
bounds-walk-k-in-loop-k c =
    let xs = c.args.profile.now.ship.stations in
    let k = c.loop-k.k in
    let weights : c.weights-weights.result.now ≡ map (station_weight (at xs)) (range_with_len 0 (length xs - 1)) = c.weights-weights.ensures ∙ c.sections.ensures.value.are_weights in
    let many : length c.weights-weights.result.now ≡ length xs - 1 = rw weights (length-map-range_with_len (station_weight (at xs)) 0 (length xs - 1)) in
    let few = c.sections.ensures.sound.ship.stations.few in
    let less = c.loop-k-test.true in
    omega (arith, many, few, less)

pub bounds-walk-k-in-loop-k-2 : goal.bounds-walk-k-in-loop-k-2
bounds-walk-k-in-loop-k-2 c =
    let xs = c.args.profile.now.ship.stations in
    let k = c.loop-k.k in
    let weights : c.weights-weights.result.now ≡ map (station_weight (at xs)) (range_with_len 0 (length xs - 1)) = c.weights-weights.ensures ∙ c.sections.ensures.value.are_weights in
    let many : length c.weights-weights.result.now ≡ length xs - 1 = rw weights (length-map-range_with_len (station_weight (at xs)) 0 (length xs - 1)) in
    let few = c.sections.ensures.sound.ship.stations.few in
    let less = c.loop-k-test.true in
    omega (arith, many, few, less)

pub volume_by-volume-requires-clause-area : goal.volume_by-volume-requires-clause-area
volume_by-volume-requires-clause-area c =
    let xs = c.args.profile.now.ship.stations in
    let k = c.loop-k.k in
    let weights : c.weights-weights.result.now ≡ map (station_weight (at xs)) (range_with_len 0 (length xs - 1)) = c.weights-weights.ensures ∙ c.sections.ensures.value.are_weights in
    let many : length c.weights-weights.result.now ≡ length xs - 1 = rw weights (length-map-range_with_len (station_weight (at xs)) 0 (length xs - 1)) in
    let few = c.sections.ensures.sound.ship.stations.few in
    let less = c.loop-k-test.true in
    let area : unsigned_abs (at c.loop-k.walk.areas k) ≤ 10 ^ 8 = rw c.loop-k.invariant.areas (c.requires.areas k (omega (arith, less, many))) in
    let a : FitsSigned w64 (slice_index_or c.loop-k.walk.areas k (pos 0)) = search rules in
    simp (to_z-of_z a) area

pub moment_by-moment-requires-clause-area : goal.moment_by-moment-requires-clause-area
moment_by-moment-requires-clause-area c =
    let xs = c.args.profile.now.ship.stations in
    let k = c.loop-k.k in
    let weights : c.weights-weights.result.now ≡ map (station_weight (at xs)) (range_with_len 0 (length xs - 1)) = c.weights-weights.ensures ∙ c.sections.ensures.value.are_weights in
    let many : length c.weights-weights.result.now ≡ length xs - 1 = rw weights (length-map-range_with_len (station_weight (at xs)) 0 (length xs - 1)) in
    let few = c.sections.ensures.sound.ship.stations.few in
    let less = c.loop-k-test.true in
    let area : unsigned_abs (at c.loop-k.walk.areas k) ≤ 10 ^ 8 = rw c.loop-k.invariant.areas (c.requires.areas k (omega (arith, less, many))) in
    let a : FitsSigned w64 (slice_index_or c.loop-k.walk.areas k (pos 0)) = search rules in
    simp (to_z-of_z a) area

pub volume_by-volume-requires-clause-weight : goal.volume_by-volume-requires-clause-weight
volume_by-volume-requires-clause-weight c =
    let xs = c.args.profile.now.ship.stations in
    let k = c.loop-k.k in
    let weights : c.weights-weights.result.now ≡ map (station_weight (at xs)) (range_with_len 0 (length xs - 1)) = c.weights-weights.ensures ∙ c.sections.ensures.value.are_weights in
    let many : length c.weights-weights.result.now ≡ length xs - 1 = rw weights (length-map-range_with_len (station_weight (at xs)) 0 (length xs - 1)) in
    let few = c.sections.ensures.sound.ship.stations.few in
    let less = c.loop-k-test.true in
    let w : slice_index_or c.weights-weights.result.now k (record { volume = pos 0; moment = pos 0 }) ≡ station_weight (at xs) k = rw weights (get_or-map-range_with_len (station_weight (at xs)) 0 (length xs - 1) k k (record { volume = pos 0; moment = pos 0 }) (omega (arith, less, many)) (omega arith)) in
    let within = c.sections.ensures.sound.ship.stations.within in
    let v : FitsSigned w64 (slice_index_or c.weights-weights.result.now k (record { volume = pos 0; moment = pos 0 })).volume = search rules in
    simp (to_z-of_z v) (rw w (volume_within xs k within))

pub moment_by-moment-requires-clause-weight : goal.moment_by-moment-requires-clause-weight
moment_by-moment-requires-clause-weight c =
    let xs = c.args.profile.now.ship.stations in
    let k = c.loop-k.k in
    let weights : c.weights-weights.result.now ≡ map (station_weight (at xs)) (range_with_len 0 (length xs - 1)) = c.weights-weights.ensures ∙ c.sections.ensures.value.are_weights in
    let many : length c.weights-weights.result.now ≡ length xs - 1 = rw weights (length-map-range_with_len (station_weight (at xs)) 0 (length xs - 1)) in
    let few = c.sections.ensures.sound.ship.stations.few in
    let less = c.loop-k-test.true in
    let w : slice_index_or c.weights-weights.result.now k (record { volume = pos 0; moment = pos 0 }) ≡ station_weight (at xs) k = rw weights (get_or-map-range_with_len (station_weight (at xs)) 0 (length xs - 1) k k (record { volume = pos 0; moment = pos 0 }) (omega (arith, less, many)) (omega arith)) in
    let within = c.sections.ensures.sound.ship.stations.within in
    let m : FitsSigned w64 (slice_index_or c.weights-weights.result.now k (record { volume = pos 0; moment = pos 0 })).moment = search rules in
    simp (to_z-of_z m) (rw w (moment_within xs k within))

pub overflow_add-volume : goal.overflow_add-volume
overflow_add-volume c =
    let xs = c.args.profile.now.ship.stations in
    let k = c.loop-k.k in
    let weights : c.weights-weights.result.now ≡ map (station_weight (at xs)) (range_with_len 0 (length xs - 1)) = c.weights-weights.ensures ∙ c.sections.ensures.value.are_weights in
    let many : length c.weights-weights.result.now ≡ length xs - 1 = rw weights (length-map-range_with_len (station_weight (at xs)) 0 (length xs - 1)) in
    let few = c.sections.ensures.sound.ship.stations.few in
    let less = c.loop-k-test.true in
    let vsize = sum_within (to_z w64 c.loop-k.volume-bits) c.volume_by-volume.result _ _ c.loop-k.invariant.volume_size c.volume_by-volume.ensures.size in
    let f : FitsSigned w64 c.volume_by-volume.result = search rules in
    sum_fits _ _ refl (to_z-of_z f) (fits_signed_from_abs w64 _ (omega (arith, vsize, few, many, less)))

pub overflow_add-moment : goal.overflow_add-moment
overflow_add-moment c =
    let xs = c.args.profile.now.ship.stations in
    let k = c.loop-k.k in
    let weights : c.weights-weights.result.now ≡ map (station_weight (at xs)) (range_with_len 0 (length xs - 1)) = c.weights-weights.ensures ∙ c.sections.ensures.value.are_weights in
    let many : length c.weights-weights.result.now ≡ length xs - 1 = rw weights (length-map-range_with_len (station_weight (at xs)) 0 (length xs - 1)) in
    let few = c.sections.ensures.sound.ship.stations.few in
    let less = c.loop-k-test.true in
    let msize = sum_within (to_z w128 c.loop-k.moment-bits) c.moment_by-moment.result _ _ c.loop-k.invariant.moment_size c.moment_by-moment.ensures.size in
    let g : FitsSigned w128 c.moment_by-moment.result = search rules in
    signed.sum_fits _ _ refl (to_z-of_z g) (fits_within _ _ msize (omega (arith, few, many, less)))

pub loop-k-preserved : goal.loop-k-preserved
loop-k-preserved c =
    let xs = c.args.profile.now.ship.stations in
    let k = c.loop-k.k in
    let weights : c.weights-weights.result.now ≡ map (station_weight (at xs)) (range_with_len 0 (length xs - 1)) = c.weights-weights.ensures ∙ c.sections.ensures.value.are_weights in
    let many : length c.weights-weights.result.now ≡ length xs - 1 = rw weights (length-map-range_with_len (station_weight (at xs)) 0 (length xs - 1)) in
    let few = c.sections.ensures.sound.ship.stations.few in
    let less = c.loop-k-test.true in
    let w : slice_index_or c.weights-weights.result.now k (record { volume = pos 0; moment = pos 0 }) ≡ station_weight (at xs) k = rw weights (get_or-map-range_with_len (station_weight (at xs)) 0 (length xs - 1) k k (record { volume = pos 0; moment = pos 0 }) (omega (arith, less, many)) (omega arith)) in
    let within = c.sections.ensures.sound.ship.stations.within in
    let v : FitsSigned w64 (slice_index_or c.weights-weights.result.now k (record { volume = pos 0; moment = pos 0 })).volume = search rules in
    let m : FitsSigned w64 (slice_index_or c.weights-weights.result.now k (record { volume = pos 0; moment = pos 0 })).moment = search rules in
    let inv = c.loop-k.invariant in
    let found = c.args.walk.now.areas in
    let volumes : ℕ → ℤ = λ j. at found j *ℤ (station_weight (at xs) j).volume in
    let moments : ℕ → ℤ = λ j. at found j *ℤ (station_weight (at xs) j).moment in
    let a : FitsSigned w64 (slice_index_or c.loop-k.walk.areas k (pos 0)) = search rules in
    let vsize = sum_within (to_z w64 c.loop-k.volume-bits) c.volume_by-volume.result _ _ c.loop-k.invariant.volume_size c.volume_by-volume.ensures.size in
    let f : FitsSigned w64 c.volume_by-volume.result = search rules in
    let msize = sum_within (to_z w128 c.loop-k.moment-bits) c.moment_by-moment.result _ _ c.loop-k.invariant.moment_size c.moment_by-moment.ensures.size in
    let g : FitsSigned w128 c.moment_by-moment.result = search rules in
    let by_volume = simp (to_z-of_z a, to_z-of_z v) at c.volume_by-volume.ensures.value in
    let by_moment = simp (to_z-of_z a, to_z-of_z m) at c.moment_by-moment.ensures.value in
    let one_volume : c.volume_by-volume.result ≡ volumes k = by_volume ∙ (λ j. at (inv.areas j) k *ℤ (w j).volume) in
    let one_moment : c.moment_by-moment.result ≡ moments k = by_moment ∙ (λ j. at (inv.areas j) k *ℤ (w j).moment) in
    let vsum = sum_back (to_z w64 c.loop-k.volume-bits) c.volume_by-volume.result refl (to_z-of_z f) (fits_signed_from_abs w64 _ (omega (arith, vsize, few, many, less))) in
    let msum = signed.sum_back (to_z w128 c.loop-k.moment-bits) c.moment_by-moment.result refl (to_z-of_z g) (fits_within _ _ msize (omega (arith, few, many, less))) in
    let vplaces = inv.volumes_size in
    let mplaces = inv.moments_size in
    let vless : k + 1 < length c.loop-k.walk.volumes = omega (arith, few, many, less, vplaces) in
    let mless : k + 1 < length c.loop-k.walk.moments = omega (arith, few, many, less, mplaces) in
    let vnext : to_z w64 c.loop-k.volume-bits +ℤ c.volume_by-volume.result ≡ tops volumes (k + 1) = (λ j. inv.volume j +ℤ one_volume j) ∙ more volumes k in
    let mnext : to_z w128 c.loop-k.moment-bits +ℤ c.moment_by-moment.result ≡ tops moments (k + 1) = (λ j. inv.moment j +ℤ one_moment j) ∙ more moments k in
    record {
      areas = inv.areas;
      volumes_size = simp length-set vplaces;
      moments_size = simp length-set mplaces;
      volume = vsum ∙ vnext;
      volume_size = rw vsum (omega (arith, vsize));
      moment = msum ∙ mnext;
      moment_size = rw msum (omega (arith, msize));
      volumes_done = set_done c.loop-k.walk.volumes (tops volumes) (k + 1) _ vless inv.volumes_done (vsum ∙ vnext);
      volumes_within = within_below (tops volumes) (k + 1) (2 * 10 ^ 16) inv.volumes_within (subst (λ z. unsigned_abs z ≤ 2 * 10 ^ 16) vnext (omega (arith, vsize, few, many, less)));
      moments_done = set_done c.loop-k.walk.moments (tops moments) (k + 1) _ mless inv.moments_done (msum ∙ mnext);
      moments_within = within_below (tops moments) (k + 1) (9 * 10 ^ 22) inv.moments_within (subst (λ z. unsigned_abs z ≤ 9 * 10 ^ 22) mnext (omega (arith, msize, few, many, less)));
    }

pub returns-clause-sums : goal.returns-clause-sums
returns-clause-sums c =
    let xs = c.args.profile.now.ship.stations in
    let k = c.loop-k.k in
    let weights : c.weights-weights.result.now ≡ map (station_weight (at xs)) (range_with_len 0 (length xs - 1)) = c.weights-weights.ensures ∙ c.sections.ensures.value.are_weights in
    let many : length c.weights-weights.result.now ≡ length xs - 1 = rw weights (length-map-range_with_len (station_weight (at xs)) 0 (length xs - 1)) in
    let few = c.sections.ensures.sound.ship.stations.few in
    let inv = c.loop-k.invariant in
    let some = c.sections.ensures.sound.ship.stations.some in
    let past = c.loop-k-test.false in
    let atmost = c.loop-k.auto in
    let last : k ≡ length c.weights-weights.result.now = omega (arith, past, atmost) in
    rw (inv.areas) (record {
      areas_within = λ j low. c.requires.areas j (omega (arith, low, some));
      are_volumes = λ j low. inv.volumes_done j (omega (arith, low, last, many));
      volumes_within = λ j low. rw (inv.volumes_done j (omega (arith, low, last, many))) (inv.volumes_within j (omega (arith, low, last, many)));
      are_moments = λ j low. inv.moments_done j (omega (arith, low, last, many));
      moments_within = λ j low. rw (inv.moments_done j (omega (arith, low, last, many))) (inv.moments_within j (omega (arith, low, last, many)));
    })
