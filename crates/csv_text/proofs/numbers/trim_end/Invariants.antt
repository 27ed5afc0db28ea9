use Rattle.std.proofs.Common.{◌≡◌, length}
use Rattle.csv_text.specs.Numbers.{before_spaces}
use Rattle.csv_text.proofs.numbers.trim_end.Given as goal

abbrev pub invariant-loop-last : goal.invariant-loop-last
invariant-loop-last l = before_spaces l.text ≡ before_spaces l.rest

abbrev pub decreases-loop-last : goal.decreases-loop-last
decreases-loop-last l = length l.rest
