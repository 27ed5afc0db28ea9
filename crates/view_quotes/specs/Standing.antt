-- Who is in a cell: the container that stands there, and what a step makes of it.
use Rattle.std.specs.Prelude.{Option, None, Some}
use Rattle.units_core.specs.declared.cells.Cell.{Cell}
use Rattle.lift_sequence.specs.Aboard.{Aboard, container_of}
use Rattle.lift_sequence.specs.declared.containers.Container.{Container}
use Rattle.view_quotes.specs.declared.standing.Before.{Before}
use Rattle.view_quotes.specs.declared.standing.Before.TheVariants.{Nobody, Loaded, Same, Restowed}
use Rattle.view_quotes.specs.declared.standing.Standing.{Standing}

abbrev pub container_in : Standing → Container
container_in standing = container_of standing.item.now

-- who is in a cell after a step, by what was aboard before it
abbrev pub told_by : Aboard → Cell → Before → Option Container
told_by at cell Nobody = None
told_by at cell (Loaded item) = Some (container_of item.now)
told_by at cell Same = at.cells cell
told_by at cell (Restowed from) = at.cells from
