use Rattle.units_core.specs.Cells.{cell_eq}
use Rattle.ship_tables.specs.Record.{IsPlace}
use Rattle.ship_tables.proofs.PlaceLemmas.{lookup-kept}
use Rattle.ship_tables.proofs.table_set.Tables.cell.Goals as goal

pub returns-clause-placed : goal.returns-clause-placed
returns-clause-placed c = rw c.get.ensures (lookup-kept (cell_eq c.args.cell) IsPlace c.self.inside.cells c.self.invariant.cells)
