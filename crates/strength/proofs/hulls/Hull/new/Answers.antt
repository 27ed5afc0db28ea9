use Rattle.std.proofs.Common.{◌∙◌, ◌<◌, ℤ, List, length, get_or, subst, sym}
use Rattle.units_core.specs.Interpolation.{at}
use Rattle.strength.specs.Hull.{weight_aft}
use Rattle.strength.proofs.hulls.Hull.new.Goals as goal

pub invariant_of-result : goal.invariant_of-result
invariant_of-result c = record { few = c.frames_aft-aft.ensures.few; within = c.weights_aft.ensures.within }

pub weights_aft-requires : goal.weights_aft-requires
weights_aft-requires c = λ i. subst (λ (xs : List ℤ). get_or c.frames_aft-aft.result i 0 < length xs) (sym c.stations.ensures.value) (c.frames_aft-aft.ensures.inside i)

pub returns : goal.returns
returns c = record {
  aft = c.frames_aft-aft.ensures.value;
  inside = c.frames_aft-aft.ensures.inside;
  weights = λ i few. c.weights_aft.ensures.value i few ∙ (λ j. weight_aft (at (c.stations.ensures.value j)) (get_or c.frames_aft-aft.result i 0));
}
