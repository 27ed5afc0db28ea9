-- What a caller sees of a tree of prefix sums.
use Rattle.std.specs.Prelude.{ℕ, List}

-- the values in their order, and how many joins were counted
pub record Counted (M : Type 0) : Type 0 where
  pub values : List M
  pub joins : ℕ
