use Rattle.std.proofs.Common.{◌≤ℤ◌, ◌<ℤ◌, refl, sym, to_z-of_z}
use Rattle.ship_tables.specs.Record.{IsBonjeanTable}
use Rattle.strength.proofs.Lines.{in_row}
use Rattle.strength.proofs.immersed.row_of.Goals as goal

pub returns-then-holds-clause-which : goal.returns-then-holds-clause-which
returns-then-holds-clause-which c =
    let t = c.args.profile.now.tables.bonjean in
    let near = c.args.near in
    let sound : IsBonjeanTable t = c.bonjean.ensures.sound.tables.tables.bonjean in
    let above : near.lower <ℤ c.args.draught = simp (to_z-of_z c.ranges.draught) at c.if-holds.ensures.above refl in
    let upper : c.args.draught ≤ℤ near.upper = simp (to_z-of_z c.ranges.draught) at c.if-holds.ensures.upper refl in
    sym (in_row t near.number near.lower near.upper c.args.draught near.lines.now sound c.requires.row above upper).1
