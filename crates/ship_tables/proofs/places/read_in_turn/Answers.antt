use Rattle.std.proofs.Common.{◌≡◌, ◌∙◌, [], ◌∷◌, length, arith, ap, rules}
use Rattle.ship_tables.specs.Gathering.{read_by}
use Rattle.ship_tables.specs.Record.{cells_form, length_column, size_column}
use Rattle.ship_tables.specs.Tables.{cells_in}
use Rattle.ship_tables.proofs.MeaningLemmas.{cells-length, places-sound}
use Rattle.ship_tables.proofs.SoundLemmas.{file_in-sound}
use Rattle.ship_tables.proofs.places.read_in_turn.Goals as goal

pub gather-requires-clause-places : goal.gather-requires-clause-places
gather-requires-clause-places c =
    let slice : c.as_slice.result.now ≡ c.in_ok-read.read.rows.items = search rules in
    let file = rw c.cells_layout.ensures at c.in_ok-read.ensures.ok in
    rw slice (places-sound c.args.extent.now (read_by c.in_ok-read.read) (file_in-sound (cells_form c.args.extent.now) (omega arith) _ (read_by c.in_ok-read.read) file))

pub gather-requires-clause-size : goal.gather-requires-clause-size
gather-requires-clause-size c =
    let rows = c.in_ok-read.read.rows.items in
    let slice : c.as_slice.result.now ≡ rows = search rules in
    let file = rw c.cells_layout.ensures at c.in_ok-read.ensures.ok in
    let gathered = rw c.cells_layout.ensures at c.in_ok-read.ensures.gathered in
    let sound = file_in-sound (cells_form c.args.extent.now) (omega arith) _ (read_by c.in_ok-read.read) file in
    let cells : length (cells_in rows) ≡ length rows = cells-length (length_column ∷ length_column ∷ length_column ∷ size_column ∷ []) rows sound.kept.rows.each in
    let keys : c.as_slice-2.result.now ≡ c.in_ok-read.read.cells.keys = search rules in
    rw slice (ap length keys ∙ (ap length gathered.seen ∙ cells))
