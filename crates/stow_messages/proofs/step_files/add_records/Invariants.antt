use Rattle.std.proofs.Common.{◌≡◌, ◌≤◌, ◌-◌, List, length}
use Rattle.csv_text.specs.Reading.{Fields, HasLeft}
use Rattle.stow_messages.specs.Steps.{rows_from}
use Rattle.stow_messages.specs.StepsSoFar.{AreFlags}
use Rattle.stow_messages.proofs.step_files.add_records.Given as goal

-- what is left to read follows what was gathered
abbrev pub invariant-loop-gathered : goal.invariant-loop-gathered
invariant-loop-gathered l = record {
  flags : AreFlags l.lifts l.gathered.rows.items l.gathered.seen.items;
  few : length l.gathered.rows.items ≤ 200000;
  rest : (rest : List Fields) → HasLeft l.fn.reader rest → (more : List Fields) × HasLeft l.reader more
      × (rows_from l.lifts l.fn.gathered.rows.items rest ≡ rows_from l.lifts l.gathered.rows.items more);
}

abbrev pub decreases-loop-gathered : goal.decreases-loop-gathered
decreases-loop-gathered l = 200001 - length l.gathered.rows.items
