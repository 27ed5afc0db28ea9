use Rattle.std.proofs.Common.{◌≡◌, ℕ, ◌<◌, get_or}
use Rattle.ship_tables.specs.Record.{TankTable}
use Rattle.ship_tables.proofs.tanks.same_tables.Given as goal

abbrev pub invariant-loop-number : goal.invariant-loop-number
invariant-loop-number l = (k : ℕ) (d : TankTable) → k < l.number → get_or l.a k d ≡ get_or l.b k d
