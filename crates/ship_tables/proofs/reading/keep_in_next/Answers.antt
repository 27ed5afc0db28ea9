use Rattle.std.proofs.Common.{◌≡◌, ◌∙◌, ◌++◌, ◌∷◌, [], ◌+◌, arith, rules}
use Rattle.ship_tables.specs.Tables.{form_of, most_tables, tables_after, first_name}
use Rattle.ship_tables.specs.Gathering.{read_by, names_held}
use Rattle.ship_tables.proofs.NameLemmas.{not_named}
use Rattle.ship_tables.proofs.ReadLemmas.{line-fits, comes-table, comes-new, seen-begins, names-begins, names-several, other_name, tables-length}
use Rattle.ship_tables.proofs.reading.keep_in_next.Goals as goal

pub remember_name-requires : goal.remember_name-requires
remember_name-requires c =
    let new = comes-new (form_of c.args.layout.now) (read_by c.args.gathered.now) c.args.row c.requires.comes c.requires.begins in
    rw c.name.ensures (not_named (names_held c.args.gathered.now) (first_name c.args.row) c.args.gathered.now.ended.items c.args.gathered.now.rows.items
    (names-several c.args.layout.now.rule c.args.gathered.now.ended.items c.args.gathered.now.rows.items c.args.row _ c.requires.begins c.requires.gathered.named)
    new (other_name c.args.layout.now.rule c.args.gathered.now.rows.items c.args.row c.requires.begins))

pub returns-clause-gathered : goal.returns-clause-gathered
returns-clause-gathered c =
    let none : c.end_table.new.rows.items ≡ [] = search rules in
    let push : c.push.new.self.items ≡ c.args.row ∷ [] = search rules in
    let ended : c.end_table.new.ended.items ≡ tables_after c.args.gathered.now.ended.items c.args.gathered.now.rows.items = search rules in
    let names : names_held c.args.gathered.now ++ first_name c.args.row ∷ [] ≡ _ = names-begins c.args.layout.now.rule c.args.gathered.now.ended.items c.args.gathered.now.rows.items c.args.row (names_held c.args.gathered.now) c.requires.begins c.requires.gathered.named in
    let held = rw c.name.ensures at c.in_ok-remember_name.ensures.kept in
    let table = comes-table (form_of c.args.layout.now) (read_by c.args.gathered.now) c.args.row c.requires.comes c.requires.begins in
    let most = c.requires.gathered.most in
    let count = tables-length (c.args.layout.now.most + 1) c.args.gathered.now.ended.items c.args.gathered.now.rows.items most in
    record {
      most = rw push (omega arith);
      tables = rw ended (omega (arith, table));
      records = let before = c.requires.gathered.records in rw (ended, push) (omega (arith, count, before));
      seen = rw push (seen-begins c.args.layout.now.rule c.args.gathered.now.rows.items c.args.row c.args.gathered.now.cells.keys c.requires.begins c.requires.gathered.seen);
      named = rw (push, ended) (held ∙ names);
    }

pub overflow_add-gathered : goal.overflow_add-gathered
overflow_add-gathered c =
    let g = c.requires.gathered in
    line-fits _ _ c.args.layout.now.most _ (most_tables c.args.layout.now.rule) g.records g.tables c.requires.tables g.most c.requires.rows
