use Rattle.std.proofs.Common.{◌≡◌, ◌∙◌, length, map, arith, sym, ap, Ok, rules}
use Rattle.std.proofs.lemmas.List.{length-map}
use Rattle.ship_tables.specs.Gathering.{read_by, names_held}
use Rattle.units_core.specs.Outcome.{◌>>=◌}
use Rattle.ship_tables.specs.Record.{tanks_form, tank_at, tank_table}
use Rattle.ship_tables.specs.Tables.{tables_read, table_name}
use Rattle.ship_tables.proofs.MeaningLemmas.{all_tanks}
use Rattle.ship_tables.proofs.NameLemmas.{tanks_by-tables}
use Rattle.ship_tables.proofs.SoundLemmas.{file_in-sound}
use Rattle.ship_tables.proofs.tanks.read_tanks.Goals as goal

pub gather_all-requires : goal.gather_all-requires
gather_all-requires c =
    let slice : c.as_slice.result.now ≡ tables_read (read_by c.in_ok-read.read) = search rules in
    let file = rw c.tanks_layout.ensures at c.in_ok-read.ensures.ok in
    rw slice (all_tanks c.args.extent.now (read_by c.in_ok-read.read) (file_in-sound (tanks_form c.args.extent.now) (omega arith) _ (read_by c.in_ok-read.read) file))

pub invariant_of-result : goal.invariant_of-result
invariant_of-result c =
    let slice : c.as_slice.result.now ≡ tables_read (read_by c.in_ok-read.read) = search rules in
    let file = rw c.tanks_layout.ensures at c.in_ok-read.ensures.ok in
    let sound = file_in-sound (tanks_form c.args.extent.now) (omega arith) _ (read_by c.in_ok-read.read) file in
    let gathered = rw c.tanks_layout.ensures at c.in_ok-read.ensures.gathered in
    let tables : c.in_ok-tables.tables.items ≡ map tank_table (tables_read (read_by c.in_ok-read.read)) = rw slice at c.in_ok-tables.ensures.ok in
    let len : length c.in_ok-tables.tables.items ≡ length (tables_read (read_by c.in_ok-read.read)) = ap length tables ∙ length-map (tables_read (read_by c.in_ok-read.read)) tank_table in
    let keys : length c.in_ok-read.read.names.keys ≡ length (names_held c.in_ok-read.read) = sym (length-map c.in_ok-read.read.names.keys (λ v. v.items)) in
    let names : length (names_held c.in_ok-read.read) ≡ length (tables_read (read_by c.in_ok-read.read)) = ap length gathered.named ∙ length-map (tables_read (read_by c.in_ok-read.read)) table_name in
    let few = sound.kept.tables.0 in
    (keys ∙ (names ∙ sym len), omega (arith, len, few))

pub returns-clause-ok : goal.returns-clause-ok
returns-clause-ok c =
    let slice : c.as_slice.result.now ≡ tables_read (read_by c.in_ok-read.read) = search rules in
    let file = rw c.tanks_layout.ensures at c.in_ok-read.ensures.ok in
    let gathered = rw c.tanks_layout.ensures at c.in_ok-read.ensures.gathered in
    let tables : c.in_ok-tables.tables.items ≡ map tank_table (tables_read (read_by c.in_ok-read.read)) = rw slice at c.in_ok-tables.ensures.ok in
    let names : names_held c.in_ok-read.read ≡ map table_name (tables_read (read_by c.in_ok-read.read)) = gathered.named in
    ap (λ r. r >>= (λ r. Ok (map tank_at (tables_read r)))) file ∙ ap Ok (sym (rw (names, tables) (tanks_by-tables (tables_read (read_by c.in_ok-read.read)))))
