use Rattle.std.proofs.Common.{◌≡◌, ◌∷◌, replicate}
use Rattle.ship_tables.specs.Record.{draught_column, area_column}
use Rattle.ship_tables.proofs.curves.bonjean_columns.Given as goal

abbrev pub invariant-loop : goal.invariant-loop
invariant-loop l = l.columns.items ≡ draught_column ∷ replicate l.counter area_column
