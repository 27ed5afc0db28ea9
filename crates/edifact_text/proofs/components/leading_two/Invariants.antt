use Rattle.std.proofs.Common.{◌≡◌, ◌++◌, take, drop}
use Rattle.edifact_text.specs.Views.{leading_component}
use Rattle.edifact_text.proofs.components.leading_two.Given as goal

abbrev pub invariant-loop-at : goal.invariant-loop-at
invariant-loop-at l = record {
  first : leading_component l.service 0 l.bytes ≡ take l.at l.bytes ++ leading_component l.service 0 (drop l.at l.bytes);
  second : leading_component l.service 1 l.bytes ≡ leading_component l.service 1 (drop l.at l.bytes);
}
