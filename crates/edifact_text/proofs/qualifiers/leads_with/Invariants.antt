use Rattle.std.proofs.Common.{◌≡◌, ◌++◌, take}
use Rattle.edifact_text.specs.Views.{leading_literal}
use Rattle.edifact_text.proofs.qualifiers.leads_with.Given as goal

abbrev pub invariant-loop-expected : goal.invariant-loop-expected
invariant-loop-expected l = leading_literal l.service l.bytes ≡ take l.expected-index l.text ++ leading_literal l.service l.left
