use Rattle.std.proofs.Common.{◌≡◌, ◌++◌, List, length}
use Rattle.csv_text.specs.Reading.{Fields, HasLeft}
use Rattle.ship_tables.specs.Plain.{ArePlain}
use Rattle.ship_tables.proofs.plain_cells.read_columns.Given as goal

-- the columns are the rows of the records that were read
abbrev pub invariant-loop : goal.invariant-loop
invariant-loop l = record {
  read : (rest : List Fields) → HasLeft l.fn.reader rest → (done : List Fields) × (more : List Fields) × (rest ≡ done ++ more) × HasLeft l.reader more
      × ArePlain l.extent done l.columns.list.cells.items l.columns.places.items;
  count : length l.columns.places.items ≡ l.counter;
  even : length l.columns.list.cells.items ≡ l.counter;
}
