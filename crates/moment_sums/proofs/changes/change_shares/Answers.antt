use Rattle.std.proofs.Common.{rules, ◌≡◌, ◌^◌, ◌*◌, ◌<◌, ◌+ℤ◌, ◌∙◌, ℕ, length, arith, ap, sym, slice_get, Option, length-set, ℤ, pos, refl, FitsSigned}
use Rattle.std.specs.Int.{w64, w128}
use Rattle.std.proofs.lemmas.Option.{slice_get-get_or}
use Rattle.units_core.specs.declared.frames.Frame.{Frame}
use Rattle.units_core.specs.Interpolation.{at}
use Rattle.units_core.proofs.Signed.{fits_within}
use Rattle.moment_sums.specs.Changes.{signed}
use Rattle.moment_sums.specs.Shares.{moment_aft, weight_aft}
use Rattle.moment_sums.specs.Sum.{at_frame}
use Rattle.moment_sums.proofs.Bounds.{set_done}
use Rattle.moment_sums.proofs.ChangeLemmas.{all_shared, change_read, mass_fits, mass_read, more_small, set_left, stays}
use Rattle.moment_sums.proofs.changes.change_shares.Goals as goal

pub loop-i-preserved : goal.loop-i-preserved
loop-i-preserved c =
    let inv = c.loop-i.invariant in
    let i = c.loop-i.i in
    let taken = c.args.taken in
    let frames = c.as_slice-list.result.now in
    let few = c.as_slice-list.ensures.few in
    let weights = c.loop-i.weights in
    let moments = c.loop-i.moments in
    let near = c.requires.weights_near i in
    let near2 = c.requires.moments_near i in
    let here = slice_get-get_or frames i c.index-list-i.result c.loop-i-test.true in
    let w : ℕ → ℤ = λ k. at_frame weight_aft (slice_get frames k) c.args.body.now in
    let m : ℕ → ℤ = λ k. at_frame moment_aft (slice_get frames k) c.args.body.now in
    let weight = c.in-Some.ensures.weight ∙ ap (λ (o : Option Frame). at_frame weight_aft o c.args.body.now) (sym here) in
    let moment = c.in-Some.ensures.moment ∙ ap (λ (o : Option Frame). at_frame moment_aft o c.args.body.now) (sym here) in
    let same = inv.weights_rest i (omega arith) in
    let same2 = inv.moments_rest i (omega arith) in
    let own : FitsSigned w64 (at weights i) = rw same (mass_fits _ (10 ^ 17) near (omega arith)) in
    let own2 : FitsSigned w128 (at moments i) = rw same2 (fits_within _ (10 ^ 29) near2 (omega arith)) in
    let part : FitsSigned w64 c.in-Some.share.weight = search rules in
    let part2 : FitsSigned w64 c.in-Some.share.moment = search rules in
    let out : FitsSigned w64 c.add_or_take_mass.result = search rules in
    let out2 : FitsSigned w128 c.add_or_take.result = search rules in
    let value = mass_read taken _ _ _ _ _ own part out c.add_or_take_mass.ensures same weight in
    let value2 = change_read taken _ _ _ _ _ own2 part2 out2 c.add_or_take.ensures same2 moment in
    let size = inv.weights_size in
    let size2 = inv.moments_size in
    let less : i < length weights = omega arith in
    let less2 : i < length moments = omega arith in
    record {
      weights_size = simp length-set size;
      moments_size = simp length-set size2;
      weights_done = set_done weights (λ k. at c.args.weights.now k +ℤ signed taken (w k)) i _ less inv.weights_done value;
      weights_small = more_small w (10 ^ 9) i inv.weights_small (rw (← weight) c.in-Some.ensures.weight_within);
      weights_rest = set_left c.args.weights.now weights i _ less inv.weights_rest;
      moments_done = set_done moments (λ k. at c.args.moments.now k +ℤ signed taken (m k)) i _ less2 inv.moments_done value2;
      moments_small = more_small m (2 * 10 ^ 15) i inv.moments_small (rw (← moment) c.in-Some.ensures.moment_within);
      moments_rest = set_left c.args.moments.now moments i _ less2 inv.moments_rest;
    }

pub loop-i-preserved-in_default : goal.loop-i-preserved-in_default
loop-i-preserved-in_default c =
    let inv = c.loop-i.invariant in
    let i = c.loop-i.i in
    let frames = c.as_slice-list.result.now in
    let here = slice_get-get_or frames i c.index-list-i.result c.loop-i-test.true in
    let w : ℕ → ℤ = λ k. at_frame weight_aft (slice_get frames k) c.args.body.now in
    let m : ℕ → ℤ = λ k. at_frame moment_aft (slice_get frames k) c.args.body.now in
    let no_weight : w i ≡ pos 0 = ap (λ (o : Option Frame). at_frame weight_aft o c.args.body.now) here ∙ c.in_default.ensures.no_weight in
    let no_moment : m i ≡ pos 0 = ap (λ (o : Option Frame). at_frame moment_aft o c.args.body.now) here ∙ c.in_default.ensures.no_moment in
    record {
      weights_size = inv.weights_size;
      moments_size = inv.moments_size;
      weights_done = stays c.args.taken c.args.weights.now c.loop-i.weights w i (inv.weights_rest i (omega arith)) no_weight inv.weights_done;
      weights_small = more_small w (10 ^ 9) i inv.weights_small (rw no_weight (omega arith));
      weights_rest = λ k more. inv.weights_rest k (omega arith);
      moments_done = stays c.args.taken c.args.moments.now c.loop-i.moments m i (inv.moments_rest i (omega arith)) no_moment inv.moments_done;
      moments_small = more_small m (2 * 10 ^ 15) i inv.moments_small (rw no_moment (omega arith));
      moments_rest = λ k more. inv.moments_rest k (omega arith);
    }

pub returns-clause-weights : goal.returns-clause-weights
returns-clause-weights c =
    let inv = c.loop-i.invariant in
    all_shared weight_aft (10 ^ 9) c.args.taken c.as_slice-list.result.now c.args.frames.now c.args.body.now c.args.weights.now c.loop-i.weights c.loop-i.i
    c.as_slice-list.ensures.value (omega (arith, c.loop-i-test.false)) inv.weights_size inv.weights_done inv.weights_small inv.weights_rest

pub returns-clause-moments : goal.returns-clause-moments
returns-clause-moments c =
    let inv = c.loop-i.invariant in
    all_shared moment_aft (2 * 10 ^ 15) c.args.taken c.as_slice-list.result.now c.args.frames.now c.args.body.now c.args.moments.now c.loop-i.moments c.loop-i.i
    c.as_slice-list.ensures.value (omega (arith, c.loop-i-test.false)) inv.moments_size inv.moments_done inv.moments_small inv.moments_rest
