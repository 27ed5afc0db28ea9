use Rattle.std.proofs.Common.{◌≡◌, map}
use Rattle.ship_tables.specs.Record.{columns_from}
use Rattle.ship_tables.proofs.curves.gather.Given as goal

abbrev pub invariant-loop-curve : goal.invariant-loop-curve
invariant-loop-curve l = map (λ v. v.items) l.columns.items ≡ columns_from 1 l.curve l.rows
