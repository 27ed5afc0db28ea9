use Rattle.std.proofs.Common.{rules, ◌≡◌, ◌∙◌, ◌*◌, ◌^◌, ◌*ℤ◌, pos, ap, sym, ◌&&◌, to_z, of_z, to_z-of_z, FitsSigned}
use Rattle.std.specs.Int.{w128}
use Rattle.std.specs.Prelude.{int_le}
use Rattle.std.specs.List.{list_all}
use Rattle.moment_sums.specs.Kept.{are_centres, is_bounded, is_share}
use Rattle.moment_sums.proofs.Bounding.{bounded_by_test}
use Rattle.moment_sums.proofs.totals.Totals.is_bounded.Goals as goal

pub returns-clause-tests : goal.returns-clause-tests
returns-clause-tests c =
    let a = c.self.inside in
    let kg : FitsSigned w128 a.kg = search rules in
    let x : FitsSigned w128 a.x = search rules in
    let y : FitsSigned w128 a.y = search rules in
    let z : FitsSigned w128 a.z = search rules in
    let fsm : FitsSigned w128 a.fsm = search rules in
    let near : FitsSigned w128 c.times.result = search rules in
    let far : FitsSigned w128 c.times-2.result = search rules in
    let near_is : to_z w128 (of_z w128 c.times.result) ≡ pos (10 ^ 6) *ℤ a.kg = to_z-of_z near ∙ (c.times.ensures.value ∙ (λ i. pos (10 ^ 6) *ℤ to_z-of_z kg i)) in
    let far_is : to_z w128 (of_z w128 c.times-2.result) ≡ pos (2 * 10 ^ 6) *ℤ a.kg = to_z-of_z far ∙ (c.times-2.ensures.value ∙ (λ i. pos (2 * 10 ^ 6) *ℤ to_z-of_z kg i)) in
    let centres = c.are_centres-centres.ensures ∙ (λ i. are_centres (near_is i) (to_z-of_z x i) (to_z-of_z y i) (to_z-of_z z i)) in
    let surface = c.is_share-surface.ensures ∙ (λ i. is_share (pos (2 * 10 ^ 14)) (to_z-of_z fsm i)) in
    let weights = c.are_parts-weights.ensures ∙ (λ i. list_all (is_share (to_z-of_z kg i)) a.weights_aft) in
    let moments = c.are_shares-moments.ensures ∙ (λ i. list_all (is_share (far_is i)) a.moments_aft) in
    let masses = c.both-2.ensures ∙ (λ i. int_le (pos 0) (to_z-of_z kg i) && (c.both.ensures ∙ (λ j. centres j && surface j)) i) in
    let shares = c.both-3.ensures ∙ (λ i. weights i && moments i) in
    c.both-4.ensures ∙ (λ i. masses i && shares i) ∙ ap is_bounded c.self.view_is

pub returns-clause-bounds : goal.returns-clause-bounds
returns-clause-bounds c = λ yes. bounded_by_test c.args.self.now (sym (returns-clause-tests c) ∙ yes)
