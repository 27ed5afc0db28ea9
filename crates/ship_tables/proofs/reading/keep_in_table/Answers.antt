use Rattle.std.proofs.Common.{◌≡◌, ◌∙◌, ◌++◌, ◌∷◌, [], ◌+◌, length, arith, rules}
use Rattle.ship_tables.specs.Tables.{form_of, most_tables}
use Rattle.ship_tables.specs.Gathering.{read_by}
use Rattle.ship_tables.proofs.ReadLemmas.{line-fits, comes-room, comes-follows, remembered-kept, names-kept}
use Rattle.ship_tables.proofs.reading.keep_in_table.Goals as goal

pub returns-clause-gathered : goal.returns-clause-gathered
returns-clause-gathered c =
    let push : c.push.new.self.items ≡ c.args.gathered.now.rows.items ++ c.args.row ∷ [] = search rules in
    let len : length c.push.new.self.items ≡ length c.args.gathered.now.rows.items + 1 = search rules in
    let room = comes-room (form_of c.args.layout.now) (read_by c.args.gathered.now) c.args.row c.requires.comes c.requires.belongs in
    let follows = comes-follows (form_of c.args.layout.now) (read_by c.args.gathered.now) c.args.row c.requires.comes c.requires.belongs in
    let remember = rw c.cell.ensures at c.in_ok-remember.ensures.kept in
    record {
      most = omega (arith, len, room);
      tables = c.requires.gathered.tables;
      records = let before = c.requires.gathered.records in omega (arith, len, before);
      seen = rw push (remember ∙ remembered-kept c.args.layout.now.rule c.args.layout.now.file c.args.gathered.now.line c.args.gathered.now.rows.items c.args.row c.args.gathered.now.cells.keys c.requires.gathered.seen follows);
      named = rw push (names-kept c.args.layout.now.rule c.args.gathered.now.ended.items c.args.gathered.now.rows.items c.args.row _ c.requires.belongs c.requires.gathered.named);
    }

pub overflow_add-gathered : goal.overflow_add-gathered
overflow_add-gathered c =
    let g = c.requires.gathered in
    line-fits _ _ c.args.layout.now.most _ (most_tables c.args.layout.now.rule) g.records g.tables c.requires.tables g.most c.requires.rows
