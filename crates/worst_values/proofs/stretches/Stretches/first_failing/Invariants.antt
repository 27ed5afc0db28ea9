use Rattle.std.proofs.Common.{◌≡◌, length, take, None}
use Rattle.worst_values.specs.Firsts.{first_unmet}
use Rattle.worst_values.specs.Stretches.{lines_of_all}
use Rattle.worst_values.proofs.stretches.Stretches.first_failing.Given as goal

abbrev pub invariant-loop-k : goal.invariant-loop-k
invariant-loop-k l = record {
  none : first_unmet 0 (lines_of_all (take l.k l.self-inside.closed.items)) ≡ None;
  line : l.line ≡ length (lines_of_all (take l.k l.self-inside.closed.items));
}
