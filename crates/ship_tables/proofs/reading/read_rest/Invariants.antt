use Rattle.std.proofs.Common.{◌≡◌, ◌+◌, ◌*◌, ◌-◌, List}
use Rattle.csv_text.specs.Reading.{Fields, HasLeft}
use Rattle.ship_tables.specs.Outcome.{in_turn}
use Rattle.ship_tables.specs.Gathering.{read_by, HasGathered}
use Rattle.ship_tables.specs.Tables.{form_of, heading_read, most_tables, added}
use Rattle.ship_tables.proofs.reading.read_rest.Given as goal

-- what is left to read follows what was gathered
abbrev pub invariant-loop-gathered : goal.invariant-loop-gathered
invariant-loop-gathered l = record {
  gathered : HasGathered (form_of l.layout) l.gathered;
  rest : (rest : List Fields) → HasLeft l.fn.reader rest → (more : List Fields) × HasLeft l.reader more
      × (in_turn (added (form_of l.layout)) heading_read rest ≡ in_turn (added (form_of l.layout)) (read_by l.gathered) more);
}

-- no more records than all tables may have
abbrev pub decreases-loop-gathered : goal.decreases-loop-gathered
decreases-loop-gathered l = 3 + most_tables l.layout.rule * (l.layout.most + 1) + (l.layout.most + 1) - l.gathered.line
