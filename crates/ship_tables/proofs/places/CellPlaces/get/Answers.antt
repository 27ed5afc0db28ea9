use Rattle.std.proofs.Common.{◌≡◌, ◌∙◌, Some, None, sym, slice_get, rules, ap}
use Rattle.std.specs.List.{position}
use Rattle.units_core.specs.Cells.{cell_eq}
use Rattle.ship_tables.proofs.PlaceLemmas.{at_index, lookup-zip}
use Rattle.ship_tables.proofs.places.CellPlaces.get.Goals as goal

pub returns-in_err-index : goal.returns-in_err-index
returns-in_err-index c =
    let none : position (cell_eq c.args.cell) c.self.inside.cells ≡ None = sym c.find.ensures ∙ c.in_err-index.was in
    rw (← c.self.view_is)
    (c.from_residual.ensures ∙ sym (lookup-zip (cell_eq c.args.cell) c.self.inside.cells c.self.inside.places.items ∙ ap (at_index c.self.inside.places.items) none))

pub returns : goal.returns
returns c =
    let found : position (cell_eq c.args.cell) c.self.inside.cells ≡ Some c.in_ok-index.index = sym c.find.ensures ∙ c.in_ok-index.was in
    let places : c.as_slice.result.now ≡ c.self.inside.places.items = search rules in
    let value : c.place_number.result ≡ slice_get c.self.inside.places.items c.in_ok-index.index = rw (← places) c.place_number.ensures in
    rw (← c.self.view_is)
    (value ∙ sym (lookup-zip (cell_eq c.args.cell) c.self.inside.cells c.self.inside.places.items ∙ ap (at_index c.self.inside.places.items) found))
