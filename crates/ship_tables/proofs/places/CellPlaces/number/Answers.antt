use Rattle.std.proofs.Common.{◌∙◌, ap, sym}
use Rattle.std.proofs.lemmas.Slice.Zip.{firsts-zip}
use Rattle.std.specs.List.{position}
use Rattle.units_core.specs.Cells.{cell_eq}
use Rattle.ship_tables.proofs.places.CellPlaces.number.Goals as goal

pub returns : goal.returns
returns c =
    rw (← c.self.view_is)
    (c.find.ensures ∙ ap (position (cell_eq c.args.cell)) (sym (firsts-zip c.self.inside.cells c.self.inside.places.items c.self.invariant)))
