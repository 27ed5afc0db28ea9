use Rattle.std.proofs.Common.{◌≡◌, ◌++◌, replicate}
use Rattle.view_table.proofs.figures.put_commas.Given as goal

abbrev pub invariant-loop-comma : goal.invariant-loop-comma
invariant-loop-comma l = l.end ≡ replicate l._comma 44 ++ l.initial.end
