-- Bookkeeping: the measures that the code takes of a curve of righting levers.
use Rattle.std.specs.Prelude.{◌≡◌, ℕ, Some, IsSomeAnd}
use Rattle.units_core.specs.Ratio.{Ratio, Is}
use Rattle.righting.specs.Levers.{greatest_of, simpson}
use Rattle.criteria.specs.declared.measures.CurveMeasures.{CurveMeasures}

-- they are those of these ordinates
pub record AreMeasures (m : CurveMeasures) (y : ℕ → Ratio) : Type 0 where
  pub sum_30 : Is m.sum_30.num m.sum_30.den (simpson y 0 3)
  pub sum_40 : Is m.sum_40.num m.sum_40.den (simpson y 0 4)
  pub sum_30_40 : Is m.sum_30_40.num m.sum_30_40.den (simpson y 6 1)
  pub best : IsSomeAnd (greatest_of y 6 7) (λ k. Is m.best.num m.best.den (y k))
  pub greatest : greatest_of y 0 13 ≡ Some m.greatest
