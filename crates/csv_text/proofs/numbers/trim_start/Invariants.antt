use Rattle.std.proofs.Common.{◌≡◌, length}
use Rattle.csv_text.specs.Numbers.{after_spaces}
use Rattle.csv_text.proofs.numbers.trim_start.Given as goal

abbrev pub invariant-loop-rest : goal.invariant-loop-rest
invariant-loop-rest l = after_spaces l.text ≡ after_spaces l.rest

abbrev pub decreases-loop-rest : goal.decreases-loop-rest
decreases-loop-rest l = length l.rest
