use Rattle.std.proofs.Common.{◌≡◌, ℕ, drop}
use Rattle.std.specs.Prelude.{find, not}
use Rattle.units_core.specs.Ratio.{Ratio}
use Rattle.criteria.specs.Measures.{AreMeasures}
use Rattle.criteria.specs.Criteria.{criteria, holds, not_met}
use Rattle.criteria.specs.Met.{condition_of}
use Rattle.criteria.proofs.holding.first_not_met.Given as goal

abbrev pub invariant-loop-k : goal.invariant-loop-k
invariant-loop-k l = (y : ℕ → Ratio) → AreMeasures l.curve y
    → not_met l.profile.ship (condition_of l.a y l.strains l.least) ≡ find (λ c. not (holds l.profile.ship (condition_of l.a y l.strains l.least) c)) (drop l.k criteria)
