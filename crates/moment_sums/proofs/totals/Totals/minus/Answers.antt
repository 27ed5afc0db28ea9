use Rattle.std.proofs.Common.{rules, refl, ap, sym, ◌∙◌, to_z, of_z, FitsSigned}
use Rattle.std.specs.Int.{w128}
use Rattle.moment_sums.specs.Sum.{negated}
use Rattle.moment_sums.specs.Kept.{Kept, size_of, values}
use Rattle.moment_sums.specs.KeptLaws.{with_places}
use Rattle.moment_sums.proofs.Bounds.{negated_read, kept_negated, values_negated}
use Rattle.moment_sums.proofs.totals.Totals.minus.Goals as goal

pub invariant_of-result : goal.invariant_of-result
invariant_of-result c =
    let a = c.self.inside in
    let f1 : FitsSigned w128 c.self.inside.kg = search rules in let h1 : FitsSigned w128 c.negate.result = search rules in
    let f2 : FitsSigned w128 c.self.inside.x = search rules in let h2 : FitsSigned w128 c.negate-2.result = search rules in
    let f3 : FitsSigned w128 c.self.inside.y = search rules in let h3 : FitsSigned w128 c.negate-3.result = search rules in
    let f4 : FitsSigned w128 c.self.inside.z = search rules in let h4 : FitsSigned w128 c.negate-4.result = search rules in
    let f5 : FitsSigned w128 c.self.inside.fsm = search rules in let h5 : FitsSigned w128 c.negate-5.result = search rules in
    kept_negated
    (record { kg = a.kg; x = a.x; y = a.y; z = a.z; fsm = a.fsm; weights_aft = a.weights_aft; moments_aft = a.moments_aft; parts = a.parts })
    (record { kg = to_z w128 (of_z w128 c.negate.result); x = to_z w128 (of_z w128 c.negate-2.result); y = to_z w128 (of_z w128 c.negate-3.result); z = to_z w128 (of_z w128 c.negate-4.result); fsm = to_z w128 (of_z w128 c.negate-5.result); weights_aft = c.negate_masses.result; moments_aft = c.negate_all.result; parts = a.parts })
    c.self.invariant refl
    (negated_read _ _ f1 h1 c.negate.ensures) (negated_read _ _ f2 h2 c.negate-2.ensures) (negated_read _ _ f3 h3 c.negate-3.ensures) (negated_read _ _ f4 h4 c.negate-4.ensures) (negated_read _ _ f5 h5 c.negate-5.ensures)
    c.negate_masses.ensures c.negate_all.ensures (search rules) (search rules)

pub returns-clause-values : goal.returns-clause-values
returns-clause-values c =
    let a = c.self.inside in
    let f1 : FitsSigned w128 c.self.inside.kg = search rules in let h1 : FitsSigned w128 c.negate.result = search rules in
    let f2 : FitsSigned w128 c.self.inside.x = search rules in let h2 : FitsSigned w128 c.negate-2.result = search rules in
    let f3 : FitsSigned w128 c.self.inside.y = search rules in let h3 : FitsSigned w128 c.negate-3.result = search rules in
    let f4 : FitsSigned w128 c.self.inside.z = search rules in let h4 : FitsSigned w128 c.negate-4.result = search rules in
    let f5 : FitsSigned w128 c.self.inside.fsm = search rules in let h5 : FitsSigned w128 c.negate-5.result = search rules in
    values_negated
    (record { kg = a.kg; x = a.x; y = a.y; z = a.z; fsm = a.fsm; weights_aft = a.weights_aft; moments_aft = a.moments_aft; parts = a.parts })
    (record { kg = to_z w128 (of_z w128 c.negate.result); x = to_z w128 (of_z w128 c.negate-2.result); y = to_z w128 (of_z w128 c.negate-3.result); z = to_z w128 (of_z w128 c.negate-4.result); fsm = to_z w128 (of_z w128 c.negate-5.result); weights_aft = c.negate_masses.result; moments_aft = c.negate_all.result; parts = a.parts })
    (negated_read _ _ f1 h1 c.negate.ensures) (negated_read _ _ f2 h2 c.negate-2.ensures) (negated_read _ _ f3 h3 c.negate-3.ensures) (negated_read _ _ f4 h4 c.negate-4.ensures) (negated_read _ _ f5 h5 c.negate-5.ensures)
    c.negate_masses.ensures c.negate_all.ensures
    ∙ ap (λ (t : Kept). negated (values t)) c.self.view_is

pub returns-clause-size : goal.returns-clause-size
returns-clause-size c =
    let a = c.self.inside in
    let result : Kept = record { kg = to_z w128 (of_z w128 c.negate.result); x = to_z w128 (of_z w128 c.negate-2.result); y = to_z w128 (of_z w128 c.negate-3.result); z = to_z w128 (of_z w128 c.negate-4.result); fsm = to_z w128 (of_z w128 c.negate-5.result); weights_aft = c.negate_masses.result; moments_aft = c.negate_all.result; parts = a.parts } in
    let own : Kept = record { kg = a.kg; x = a.x; y = a.y; z = a.z; fsm = a.fsm; weights_aft = a.weights_aft; moments_aft = a.moments_aft; parts = a.parts } in
    with_places result (search rules) (search rules) ∙ sym (with_places own c.self.invariant.weights_places c.self.invariant.moments_places) ∙ ap size_of c.self.view_is
