use Rattle.std.proofs.Common.{◌≡◌, ◌++◌, take}
use Rattle.edifact_text.specs.Views.{meaning_of}
use Rattle.edifact_text.proofs.raw.Raw.is.Given as goal

abbrev pub invariant-loop-expected : goal.invariant-loop-expected
invariant-loop-expected l = meaning_of l.self ≡ take l.expected-index l.text ++ meaning_of l.left
