-- The values of a step.
use Rattle.std.proofs.Common.{◌≡◌, ◌∙◌, ◌+ℤ◌, ℤ, pos, List, Some, arith}
use Rattle.std.proofs.lemmas.Int.{ints}
use Rattle.units_core.specs.Bodies.{Mass}
use Rattle.units_core.specs.declared.frames.Frame.{Frame}
use Rattle.moment_sums.specs.Sum.{Sum, in_option, of_body, value}

pub one_body : (frames : List Frame) (b : Mass) (s : Sum) → s ≡ of_body frames b → s ≡ in_option frames (Some b)
one_body frames b s e = e ∙ (λ i c. one (value frames c b) i) where
  one : (z : ℤ) → z ≡ z +ℤ pos 0
  one z = omega (arith, ints)
