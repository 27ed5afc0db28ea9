use Rattle.std.proofs.Common.{◌≡◌, ℕ, ◌<◌, ◌≤◌, ◌^◌, ◌++◌, List, take, drop}
use Rattle.edifact_text.specs.Rows.{number_from}
use Rattle.edifact_text.specs.Views.{leading_literal}
use Rattle.edifact_text.proofs.fields.leading_count.Given as goal

abbrev pub invariant-loop-at : goal.invariant-loop-at
invariant-loop-at l = record {
  lead : leading_literal l.service l.bytes ≡ take l.at l.bytes ++ leading_literal l.service (drop l.at l.bytes);
  number : (rest : List ℕ) → number_from 0 (take l.at l.bytes ++ rest) ≡ number_from l.value rest;
  few : l.at ≤ 10;
  small : l.value < 10 ^ l.at;
}
