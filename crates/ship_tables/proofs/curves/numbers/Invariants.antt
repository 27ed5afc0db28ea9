use Rattle.std.proofs.Common.{◌≡◌, take}
use Rattle.ship_tables.specs.Record.{numbers_of}
use Rattle.ship_tables.proofs.curves.numbers.Given as goal

abbrev pub invariant-loop-row : goal.invariant-loop-row
invariant-loop-row l = l.numbers.items ≡ numbers_of l.column (take l.row-index l.rows)
