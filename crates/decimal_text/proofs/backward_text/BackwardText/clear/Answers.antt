use Rattle.std.proofs.Common.{◌≡◌, [], drop, arith}
use Rattle.std.proofs.lemmas.List.{drop_all}
use Rattle.decimal_text.proofs.backward_text.BackwardText.clear.Goals as goal

pub invariant_of-self : goal.invariant_of-self
invariant_of-self c =
    let none : drop 2048 c.self.inside.bytes ≡ [] = drop_all 2048 c.self.inside.bytes (omega arith) in
    (omega arith, rw none (λ i. omega arith))

pub returns : goal.returns
returns c = drop_all 2048 c.self.inside.bytes (omega arith)
