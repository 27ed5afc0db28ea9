-- Bookkeeping: what is kept of a publication, as the code has it.
use Rattle.std.specs.Prelude.{List}
use Rattle.what_if.specs.Desks.{list_of}
use Rattle.view_session.specs.declared.shelves.Kept.{Kept}
use Rattle.view_session.specs.Shelves.{KeptRecord}
use Rattle.view_session.specs.Trails.{texts_of}

abbrev pub kept_of : Kept → KeptRecord
kept_of k = record { ops = list_of k.ticket; lines = texts_of k.lines.items }
