use Rattle.std.proofs.Common.{rules, ◌≡◌, ◌+◌, ◌≤◌, ap, ◌∙◌, to_z, of_z, FitsSigned, arith}
use Rattle.std.specs.Int.{w128}
use Rattle.prefix_scan.specs.Laws.{most_parts}
use Rattle.moment_sums.specs.Kept.{Kept, both_kept, size_of}
use Rattle.moment_sums.specs.KeptLaws.{with_places}
use Rattle.moment_sums.proofs.Bounds.{sum_read, kept_sum}
use Rattle.moment_sums.proofs.totals.TotalsMonoid.join.Goals as goal

pub invariant_of-result : goal.invariant_of-result
invariant_of-result c =
    let a = c.self.inside in let b = c.right.inside in
    let f1 : FitsSigned w128 c.self.inside.kg = search rules in let g1 : FitsSigned w128 c.right.inside.kg = search rules in let h1 : FitsSigned w128 c.plus.result = search rules in
    let f2 : FitsSigned w128 c.self.inside.x = search rules in let g2 : FitsSigned w128 c.right.inside.x = search rules in let h2 : FitsSigned w128 c.plus-2.result = search rules in
    let f3 : FitsSigned w128 c.self.inside.y = search rules in let g3 : FitsSigned w128 c.right.inside.y = search rules in let h3 : FitsSigned w128 c.plus-3.result = search rules in
    let f4 : FitsSigned w128 c.self.inside.z = search rules in let g4 : FitsSigned w128 c.right.inside.z = search rules in let h4 : FitsSigned w128 c.plus-4.result = search rules in
    let f5 : FitsSigned w128 c.self.inside.fsm = search rules in let g5 : FitsSigned w128 c.right.inside.fsm = search rules in let h5 : FitsSigned w128 c.plus-5.result = search rules in
    let left : Kept = record { kg = a.kg; x = a.x; y = a.y; z = a.z; fsm = a.fsm; weights_aft = a.weights_aft; moments_aft = a.moments_aft; parts = a.parts } in
    let right : Kept = record { kg = b.kg; x = b.x; y = b.y; z = b.z; fsm = b.fsm; weights_aft = b.weights_aft; moments_aft = b.moments_aft; parts = b.parts } in
    let sum : Kept = record { kg = to_z w128 (of_z w128 c.plus.result); x = to_z w128 (of_z w128 c.plus-2.result); y = to_z w128 (of_z w128 c.plus-3.result); z = to_z w128 (of_z w128 c.plus-4.result); fsm = to_z w128 (of_z w128 c.plus-5.result); weights_aft = c.add_masses.result; moments_aft = c.add.result; parts = a.parts + b.parts } in
    let is : sum ≡ both_kept left right = λ i. record {
      kg = sum_read _ _ _ f1 g1 h1 c.plus.ensures i;
      x = sum_read _ _ _ f2 g2 h2 c.plus-2.ensures i;
      y = sum_read _ _ _ f3 g3 h3 c.plus-3.ensures i;
      z = sum_read _ _ _ f4 g4 h4 c.plus-4.ensures i;
      fsm = sum_read _ _ _ f5 g5 h5 c.plus-5.ensures i;
      weights_aft = c.add_masses.ensures i;
      moments_aft = c.add.ensures i;
      parts = a.parts + b.parts;
    } in
    let wa = with_places left c.self.invariant.weights_places c.self.invariant.moments_places in
    let wb = with_places right c.right.invariant.weights_places c.right.invariant.moments_places in
    let va = ap size_of c.self.view_is in
    let vb = ap size_of c.right.view_is in
    let few : a.parts + b.parts ≤ most_parts = omega (arith, c.requires, wa, wb, va, vb) in
    kept_sum left right c.self.invariant c.right.invariant few sum is

pub returns : goal.returns
returns c =
    let a = c.self.inside in let b = c.right.inside in
    let f1 : FitsSigned w128 c.self.inside.kg = search rules in let g1 : FitsSigned w128 c.right.inside.kg = search rules in let h1 : FitsSigned w128 c.plus.result = search rules in
    let f2 : FitsSigned w128 c.self.inside.x = search rules in let g2 : FitsSigned w128 c.right.inside.x = search rules in let h2 : FitsSigned w128 c.plus-2.result = search rules in
    let f3 : FitsSigned w128 c.self.inside.y = search rules in let g3 : FitsSigned w128 c.right.inside.y = search rules in let h3 : FitsSigned w128 c.plus-3.result = search rules in
    let f4 : FitsSigned w128 c.self.inside.z = search rules in let g4 : FitsSigned w128 c.right.inside.z = search rules in let h4 : FitsSigned w128 c.plus-4.result = search rules in
    let f5 : FitsSigned w128 c.self.inside.fsm = search rules in let g5 : FitsSigned w128 c.right.inside.fsm = search rules in let h5 : FitsSigned w128 c.plus-5.result = search rules in
    let left : Kept = record { kg = a.kg; x = a.x; y = a.y; z = a.z; fsm = a.fsm; weights_aft = a.weights_aft; moments_aft = a.moments_aft; parts = a.parts } in
    let right : Kept = record { kg = b.kg; x = b.x; y = b.y; z = b.z; fsm = b.fsm; weights_aft = b.weights_aft; moments_aft = b.moments_aft; parts = b.parts } in
    let sum : Kept = record { kg = to_z w128 (of_z w128 c.plus.result); x = to_z w128 (of_z w128 c.plus-2.result); y = to_z w128 (of_z w128 c.plus-3.result); z = to_z w128 (of_z w128 c.plus-4.result); fsm = to_z w128 (of_z w128 c.plus-5.result); weights_aft = c.add_masses.result; moments_aft = c.add.result; parts = a.parts + b.parts } in
    let is : sum ≡ both_kept left right = λ i. record {
      kg = sum_read _ _ _ f1 g1 h1 c.plus.ensures i;
      x = sum_read _ _ _ f2 g2 h2 c.plus-2.ensures i;
      y = sum_read _ _ _ f3 g3 h3 c.plus-3.ensures i;
      z = sum_read _ _ _ f4 g4 h4 c.plus-4.ensures i;
      fsm = sum_read _ _ _ f5 g5 h5 c.plus-5.ensures i;
      weights_aft = c.add_masses.ensures i;
      moments_aft = c.add.ensures i;
      parts = a.parts + b.parts;
    } in
    is ∙ (λ i. both_kept (c.self.view_is i) (c.right.view_is i))
