use Rattle.std.proofs.Common.{◌+◌, ◌/◌, arith, inl, inr, lt_of_not-le}
use mathlib.Core.Logic.{dite}
use native.Mathlib.Decide.{dec_le}
use Rattle.what_if.proofs.moves.stretch.Goals as goal

pub returns-clause-ends : goal.returns-clause-ends
returns-clause-ends c =
    dite (dec_le ((c.max.result + 3) / 4) (c.args.steps / 4))
    (λ inside. inl (
      omega (arith, inside, c.min-end.ensures, c.max.ensures, c.requires.first.0, c.requires.first.1),
      omega (arith, inside, c.min-end.ensures, c.max.ensures, c.requires.first.0, c.requires.first.1),
    ))
    (λ not. let past = lt_of_not-le not in
    inr (omega (arith, past, c.min-end.ensures)))
