use Rattle.std.proofs.Common.{◌≡◌, ◌++◌, take}
use Rattle.worst_values.specs.Stretches.{lines_of_all}
use Rattle.worst_values.proofs.stretches.Stretches.append.Given as goal

abbrev pub invariant-loop-k : goal.invariant-loop-k
invariant-loop-k l = l.self ≡ l.fn.self ++ lines_of_all (take l.k l.behind-inside.closed.items)
