use Rattle.std.proofs.Common.{◌≡◌, take}
use Rattle.what_if.proofs.passing.same_before.Given as goal

abbrev pub invariant-loop-k : goal.invariant-loop-k
invariant-loop-k l = record {
  alike : take l.k l.ops ≡ take l.k l.others;
}
