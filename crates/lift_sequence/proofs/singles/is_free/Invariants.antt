use Rattle.std.proofs.Common.{◌≡◌, take, true}
use Rattle.std.specs.List.{list_all}
use Rattle.lift_sequence.specs.Independent.{are_independent}
use Rattle.lift_sequence.proofs.singles.is_free.Given as goal

abbrev pub invariant-loop-other : goal.invariant-loop-other
invariant-loop-other l = list_all (are_independent l.op) (take l.other-index l.others) ≡ true
