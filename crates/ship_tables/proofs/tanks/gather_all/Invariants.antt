use Rattle.std.proofs.Common.{◌≡◌, map, take}
use Rattle.ship_tables.specs.Record.{tank_table}
use Rattle.ship_tables.proofs.tanks.gather_all.Given as goal

abbrev pub invariant-loop-table : goal.invariant-loop-table
invariant-loop-table l = l.gathered.items ≡ map tank_table (take l.table-index l.tables)
