use Rattle.std.proofs.Common.{◌≡◌, take, map}
use Rattle.ship_tables.specs.Record.{place_at}
use Rattle.ship_tables.proofs.places.places.Given as goal

abbrev pub invariant-loop-row : goal.invariant-loop-row
invariant-loop-row l = l.places.items ≡ map place_at (take l.row-index l.rows)
