use Rattle.std.proofs.Common.{◌≡◌, length, drop, zip}
use Rattle.csv.specs.Records.{fields_of}
use Rattle.ship_tables.specs.Outcome.{each}
use Rattle.ship_tables.specs.Tables.{field_in}
use Rattle.ship_tables.proofs.OutcomeLemmas.{prepend}
use Rattle.ship_tables.proofs.rows.read_row.Given as goal

-- the record has a field for each column, and what is left to read follows what was read
abbrev pub invariant-loop-place : goal.invariant-loop-place
invariant-loop-place l = record {
  fields : length (fields_of l.fields) ≡ length l.layout.columns.now;
  rest : each (λ p. field_in l.layout.file l.line p.0 p.1) (zip l.layout.columns.now (fields_of l.fields))
      ≡ prepend l.read.items (each (λ p. field_in l.layout.file l.line p.0 p.1) (zip (drop l.place l.layout.columns.now) (drop l.place (fields_of l.fields))));
}
