use Rattle.std.proofs.Common.{◌≡◌, ℕ, ◌<◌, get_or}
use Rattle.units_core.specs.declared.cells.Cell.{Cell}
use Rattle.ship_tables.specs.Lookup.{index_in}
use Rattle.ship_tables.proofs.cell_lists.all_told.Given as goal

abbrev pub invariant-loop-place : goal.invariant-loop-place
invariant-loop-place l = (k : ℕ) (d : Cell) → k < l.place → index_in l.blocks l.entries (get_or l.cells k d) ≡ k
