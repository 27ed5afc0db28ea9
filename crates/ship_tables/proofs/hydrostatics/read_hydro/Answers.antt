use Rattle.std.proofs.Common.{◌≡◌, arith, rules}
use Rattle.ship_tables.specs.Gathering.{read_by}
use Rattle.ship_tables.specs.Record.{hydro_form}
use Rattle.ship_tables.proofs.MeaningLemmas.{hydro-sound}
use Rattle.ship_tables.proofs.SoundLemmas.{file_in-sound}
use Rattle.ship_tables.proofs.hydrostatics.read_hydro.Goals as goal

pub gather-requires : goal.gather-requires
gather-requires c =
    let slice : c.as_slice.result.now ≡ c.in_ok-read.read.rows.items = search rules in
    let file = rw c.hydro_layout.ensures at c.in_ok-read.ensures.ok in
    rw slice (hydro-sound (read_by c.in_ok-read.read) (file_in-sound hydro_form (omega arith) _ (read_by c.in_ok-read.read) file))
