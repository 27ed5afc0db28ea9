use Rattle.std.proofs.Common.{◌≡◌, ◌++◌, replicate}
use Rattle.decimal_text.proofs.backward_text.BackwardText.put_many_zeros.Given as goal

abbrev pub invariant-loop-zero : goal.invariant-loop-zero
invariant-loop-zero l = l.self ≡ replicate l._zero 48 ++ l.initial.self
