use Rattle.std.proofs.Common.{◌≡◌, ◌∙◌, None, Some, ap, cond, refl, sym}
use Rattle.std.proofs.lemmas.Map.Made.{lookup_key_passes}
use Rattle.std.proofs.lemmas.Option.{same_Some}
use Rattle.indexmap.specs.IndexMap.{get}
use Rattle.units_core.specs.declared.cells.Cell.{Cell}
use Rattle.units_core.specs.Cells.{cell_eq}
use Rattle.lift_sequence.specs.declared.containers.Container.{Container}
use Rattle.lift_sequence.proofs.Listings.{cells_same}
use Rattle.lift_sequence.proofs.States.{same}
use Rattle.lift_sequence.proofs.stowage.Stowage.take.Goals as goal

-- the entry that is removed by its index is the one that was found, whose key is the cell
pub returns-clause-aboard : goal.returns-clause-aboard
returns-clause-aboard c =
    let cells = c.args.self.now.cells in
    let key = c.in-Some-get_full.field-0-1.now in
    let found : c.args.cell ≡ key = cells_same c.args.cell key (lookup_key_passes (cell_eq c.args.cell) cells.entries key (sym c.in-Some-get_full.ensures.key)) in
    let removed : Some c.unwrap-container.result ≡ Some (key, c.in-Some-get_full.container.now) =
    sym c.unwrap-container.ensures ∙ c.swap_remove_index.ensures.entry ∙ c.in-Some-get_full.ensures.entry in
    let is : c.unwrap-container.result.0 ≡ c.args.cell = ap (λ (p : Cell × Container). p.0) (same_Some _ _ removed) ∙ sym found in
    let updates = rw c.unwrap-container.ensures at c.swap_remove_index.ensures.updates in
    same _ _ (λ q. updates.0 q ∙ ap (λ (k : Cell). cond (cell_eq k q) None (get cell_eq cells q)) is) (λ tank. refl)
