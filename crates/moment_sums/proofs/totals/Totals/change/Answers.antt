use Rattle.std.proofs.Common.{rules, ◌∙◌, ◌+◌, ◌^◌, ◌≤◌, ◌*ℤ◌, ℤ, pos, unsigned_abs, subst, ap, refl, arith, slice_get, to_z, of_z, FitsSigned}
use Rattle.std.specs.Int.{w64, w128}
use Rattle.units_core.specs.declared.bodies.Place.{Place}
use Rattle.prefix_scan.specs.Laws.{most_parts}
use Rattle.moment_sums.specs.Changes.{change_of, signed}
use Rattle.moment_sums.specs.Kept.{Kept, both_kept, kept_of, size_of}
use Rattle.moment_sums.specs.KeptLaws.{with_places}
use Rattle.moment_sums.specs.Shares.{moment_aft, weight_aft}
use Rattle.moment_sums.specs.Sum.{at_frame}
use Rattle.moment_sums.proofs.Bounds.{kept_sum}
use Rattle.moment_sums.proofs.ChangeLemmas.{change_kept, change_read, changed_row}
use Rattle.moment_sums.proofs.totals.Totals.change.Goals as goal

pub invariant_of-self : goal.invariant_of-self
invariant_of-self c =
    let a = c.self.inside in
    let b = c.args.body.now in
    let taken = c.args.taken in
    let place = c.place-place.ensures in
    let f1 : FitsSigned w128 a.kg = search rules in let g1 : FitsSigned w64 c.kg.result = search rules in let h1 : FitsSigned w128 c.add_or_take-self-inside.result = search rules in
    let f2 : FitsSigned w128 a.x = search rules in let g2 : FitsSigned w64 c.moment_of.result = search rules in let h2 : FitsSigned w128 c.add_or_take-self-inside-2.result = search rules in
    let f3 : FitsSigned w128 a.y = search rules in let g3 : FitsSigned w64 c.moment_of-2.result = search rules in let h3 : FitsSigned w128 c.add_or_take-self-inside-3.result = search rules in
    let f4 : FitsSigned w128 a.z = search rules in let g4 : FitsSigned w64 c.moment_of-3.result = search rules in let h4 : FitsSigned w128 c.add_or_take-self-inside-4.result = search rules in
    let f5 : FitsSigned w128 a.fsm = search rules in let g5 : FitsSigned w64 c.surface_of.result = search rules in let h5 : FitsSigned w128 c.add_or_take-self-inside-5.result = search rules in
    let kg = c.kg.ensures.value in
    let x = c.moment_of.ensures.value ∙ ap (λ (p : Place). pos b.kg *ℤ p.x) place in
    let y = c.moment_of-2.ensures.value ∙ ap (λ (p : Place). pos b.kg *ℤ p.y) place in
    let z = c.moment_of-3.ensures.value ∙ ap (λ (p : Place). pos b.kg *ℤ p.z) place in
    let fsm = c.surface_of.ensures.value in
    let left : Kept = record { kg = a.kg; x = a.x; y = a.y; z = a.z; fsm = a.fsm; weights_aft = a.weights_aft; moments_aft = a.moments_aft; parts = a.parts } in
    let weights = changed_row a.weights_aft c.change_shares.new.weights (λ i. signed taken (at_frame weight_aft (slice_get c.args.frames.now i) b)) c.self.invariant.weights_places c.change_shares.ensures.weights.places c.change_shares.ensures.weights.each in
    let moments = changed_row a.moments_aft c.change_shares.new.moments (λ i. signed taken (at_frame moment_aft (slice_get c.args.frames.now i) b)) c.self.invariant.moments_places c.change_shares.ensures.moments.places c.change_shares.ensures.moments.each in
    let room = with_places left c.self.invariant.weights_places c.self.invariant.moments_places in
    let view = ap size_of c.self.view_is in
    let few : a.parts + 1 ≤ most_parts = omega (arith, c.requires.room, room, view) in
    let part = change_kept taken c.args.frames.now b c.change_shares.ensures.few (subst (λ (n : ℤ). unsigned_abs n ≤ 10 ^ 9) kg c.kg.ensures.within) (subst (λ (n : ℤ). unsigned_abs n ≤ 10 ^ 15) x c.moment_of.ensures.within) (subst (λ (n : ℤ). unsigned_abs n ≤ 10 ^ 15) y c.moment_of-2.ensures.within) (subst (λ (n : ℤ). unsigned_abs n ≤ 10 ^ 15) z c.moment_of-3.ensures.within) (subst (λ (n : ℤ). unsigned_abs n ≤ 10 ^ 12) fsm c.surface_of.ensures.within)
    c.change_shares.ensures.weights.small c.change_shares.ensures.moments.small in
    kept_sum left (kept_of (change_of taken c.args.frames.now b) 1) c.self.invariant part few
    (record { kg = to_z w128 (of_z w128 c.add_or_take-self-inside.result); x = to_z w128 (of_z w128 c.add_or_take-self-inside-2.result); y = to_z w128 (of_z w128 c.add_or_take-self-inside-3.result); z = to_z w128 (of_z w128 c.add_or_take-self-inside-4.result); fsm = to_z w128 (of_z w128 c.add_or_take-self-inside-5.result); weights_aft = c.change_shares.new.weights; moments_aft = c.change_shares.new.moments; parts = a.parts + 1 })
    (λ i. record {
      kg = change_read taken _ _ _ _ _ f1 g1 h1 c.add_or_take-self-inside.ensures refl kg i;
      x = change_read taken _ _ _ _ _ f2 g2 h2 c.add_or_take-self-inside-2.ensures refl x i;
      y = change_read taken _ _ _ _ _ f3 g3 h3 c.add_or_take-self-inside-3.ensures refl y i;
      z = change_read taken _ _ _ _ _ f4 g4 h4 c.add_or_take-self-inside-4.ensures refl z i;
      fsm = change_read taken _ _ _ _ _ f5 g5 h5 c.add_or_take-self-inside-5.ensures refl fsm i;
      weights_aft = weights i;
      moments_aft = moments i;
      parts = a.parts + 1;
    })

pub returns-clause-kept : goal.returns-clause-kept
returns-clause-kept c =
    let a = c.self.inside in
    let b = c.args.body.now in
    let taken = c.args.taken in
    let place = c.place-place.ensures in
    let f1 : FitsSigned w128 a.kg = search rules in let g1 : FitsSigned w64 c.kg.result = search rules in let h1 : FitsSigned w128 c.add_or_take-self-inside.result = search rules in
    let f2 : FitsSigned w128 a.x = search rules in let g2 : FitsSigned w64 c.moment_of.result = search rules in let h2 : FitsSigned w128 c.add_or_take-self-inside-2.result = search rules in
    let f3 : FitsSigned w128 a.y = search rules in let g3 : FitsSigned w64 c.moment_of-2.result = search rules in let h3 : FitsSigned w128 c.add_or_take-self-inside-3.result = search rules in
    let f4 : FitsSigned w128 a.z = search rules in let g4 : FitsSigned w64 c.moment_of-3.result = search rules in let h4 : FitsSigned w128 c.add_or_take-self-inside-4.result = search rules in
    let f5 : FitsSigned w128 a.fsm = search rules in let g5 : FitsSigned w64 c.surface_of.result = search rules in let h5 : FitsSigned w128 c.add_or_take-self-inside-5.result = search rules in
    let kg = c.kg.ensures.value in
    let x = c.moment_of.ensures.value ∙ ap (λ (p : Place). pos b.kg *ℤ p.x) place in
    let y = c.moment_of-2.ensures.value ∙ ap (λ (p : Place). pos b.kg *ℤ p.y) place in
    let z = c.moment_of-3.ensures.value ∙ ap (λ (p : Place). pos b.kg *ℤ p.z) place in
    let fsm = c.surface_of.ensures.value in
    let left : Kept = record { kg = a.kg; x = a.x; y = a.y; z = a.z; fsm = a.fsm; weights_aft = a.weights_aft; moments_aft = a.moments_aft; parts = a.parts } in
    let weights = changed_row a.weights_aft c.change_shares.new.weights (λ i. signed taken (at_frame weight_aft (slice_get c.args.frames.now i) b)) c.self.invariant.weights_places c.change_shares.ensures.weights.places c.change_shares.ensures.weights.each in
    let moments = changed_row a.moments_aft c.change_shares.new.moments (λ i. signed taken (at_frame moment_aft (slice_get c.args.frames.now i) b)) c.self.invariant.moments_places c.change_shares.ensures.moments.places c.change_shares.ensures.moments.each in
    (λ i. record {
      kg = change_read taken _ _ _ _ _ f1 g1 h1 c.add_or_take-self-inside.ensures refl kg i;
      x = change_read taken _ _ _ _ _ f2 g2 h2 c.add_or_take-self-inside-2.ensures refl x i;
      y = change_read taken _ _ _ _ _ f3 g3 h3 c.add_or_take-self-inside-3.ensures refl y i;
      z = change_read taken _ _ _ _ _ f4 g4 h4 c.add_or_take-self-inside-4.ensures refl z i;
      fsm = change_read taken _ _ _ _ _ f5 g5 h5 c.add_or_take-self-inside-5.ensures refl fsm i;
      weights_aft = weights i;
      moments_aft = moments i;
      parts = a.parts + 1;
    }) ∙ (λ i. both_kept (c.self.view_is i) (kept_of (change_of taken c.args.frames.now b) 1))
